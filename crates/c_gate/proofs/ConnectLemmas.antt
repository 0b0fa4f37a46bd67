-- The target of a CONNECT among lines.
use Rattle.std.proofs.{Common.{◌≡◌, ℕ, List}, lemmas.Iterator.Adapters.position_from-zero}
use Rattle.{std.specs.List.position_from, headers_syntax.specs.AsciiCase.{same_name}}
use Rattle.{c_gate.specs.Connecting.{place_in}}

-- the first place is counted from 0
pub place_is : (targets : List (List ℕ)) (authority : List ℕ)
    → place_in targets authority ≡ position_from (λ target. same_name target authority) 0 targets
place_is targets authority = position_from-zero (λ target. same_name target authority) targets
