-- The canonical text of a header section, as it is written into the caller's room.
use Rattle.std.specs.Prelude.{◌⊎◌, ℕ, ◌<◌, ◌≤◌, List, length, Result, Ok, Err, if◌then◌else◌}
use Rattle.{headers.specs.Typed.HasLine, headers_section.specs.{CanonicalText.IsCanonicalText, Section.input_limit}}
use Rattle.headers_section.specs.Section.{section, HasNoField, HasTooManyFields}
use Rattle.{c_library.specs.declared.canonical.Canonical.Canonical, c_parts.specs.declared.status.Failure.Failure}
use Rattle.c_parts.specs.{declared.status.Failure.TheVariants.{Refused, Memory, Absent, TooLarge}, Endings.done}
use Rattle.c_parts.specs.Endings.{marked, Writes}

-- What an answer says of an input: its canonical text, and whether some name's lines were rejected; `Refused` only if a
-- line before the first empty one is no field; `TooLarge` only if the input is too long, or has more fields than a map
-- has room for; `Memory` only if there is a line before the first empty one.
abbrev pub IsCanonicalAnswer : List ℕ → Result Canonical Failure → Type 0
IsCanonicalAnswer input (Ok canonical) =
    (length input ≤ input_limit)
    × (¬ (HasTooManyFields input))
    × IsCanonicalText input canonical.text.items canonical.is_marked
IsCanonicalAnswer input (Err Refused) = (length input ≤ input_limit) × HasNoField (section input)
IsCanonicalAnswer input (Err TooLarge) =
    (input_limit < length input) ⊎ ((length input ≤ input_limit) × HasTooManyFields input)
IsCanonicalAnswer input (Err Memory) = (length input ≤ input_limit) × HasLine (section input)
IsCanonicalAnswer input (Err Absent) = ⊥

abbrev pub WritesCanonical : List ℕ → (old new : List ℕ) → (before written status : ℕ) → Type 0
WritesCanonical input =
    Writes (λ canonical. canonical.text.items) (λ canonical. if canonical.is_marked then marked else done)
    (IsCanonicalAnswer input)
