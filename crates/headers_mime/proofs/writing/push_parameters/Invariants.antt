use Rattle.std.{proofs.Common.{◌≡◌, ◌++◌, List, ℕ, length}, specs.Prelude.option_map}
use Rattle.headers_mime.specs.MediaTypeReading.{canonical_rest}
use Rattle.headers_mime.proofs.writing.push_parameters.Given as goal

abbrev pub invariant-loop-rest : goal.invariant-loop-rest
invariant-loop-rest l = option_map (λ (t : List ℕ). l.initial.text.items ++ t) (canonical_rest l.initial.rest)
    ≡ option_map (λ (t : List ℕ). l.text.items ++ t) (canonical_rest l.rest)

abbrev pub decreases-loop-rest : goal.decreases-loop-rest
decreases-loop-rest l = length l.rest
