-- The parts of a text, and the age in a part.
use Rattle.std.{specs.Prelude.{ℕ, List, map, ◌==◌, Option, Some, None, if◌then◌else◌}, specs.List.slice_split}
use Rattle.headers_syntax.specs.Text.{trim}
use Rattle.headers_lists.specs.StrictTransportSecurity.{carries_age, age_in}

-- the trimmed slices between all semicolons of a text
abbrev pub pieces : List ℕ → List (List ℕ)
pieces text = map trim (slice_split (λ b. b == 59) text)

-- the age in a part, if it is one
abbrev pub age_of : List ℕ → Option (Option ℕ)
age_of part = if carries_age part then Some (age_in part) else None
