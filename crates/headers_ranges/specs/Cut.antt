-- A text cut at the first place of a byte.
use Rattle.std.specs.Prelude.{ℕ, List, ◌==◌, Option, Some, None, if◌then◌else◌}
use Rattle.std.specs.List.{list_any, before_first, after_first}

-- what is before the first byte c and after it, if there is one
abbrev pub cut : ℕ → List ℕ → Option (List ℕ × List ℕ)
cut c s = if list_any (λ b. b == c) s then Some (before_first (λ b. b == c) s, after_first (λ b. b == c) s) else None
