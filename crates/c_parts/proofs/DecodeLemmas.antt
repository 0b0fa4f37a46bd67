-- What a failure to read one kind of value says of another.
use Rattle.std.proofs.Common.{◌≡◌, ℕ, ◌≤◌, List, [], ◌∷◌, length, Some, Err, arith}
use Rattle.{http_header.specs.FieldValue.FieldValue, headers.specs.{Lines.{Line, lines_of, only_line}, Typed.HasLine}}
use Rattle.c_parts.specs.{FieldText.{FieldDecodes, field_lines}, declared.status.Failure.{Failure, TheVariants.Refused}}
use Rattle.c_parts.specs.declared.status.Failure.TheVariants.{Memory, Absent, TooLarge}

-- a failure says the same of values that are read only if some value of the first kind is
pub FieldDecodes-fails : {V W : Type 0} (reads : List Line → V → Type 0) (others : List Line → W → Type 0)
    (text : List ℕ) (failure : Failure) → ((w : W) → others (field_lines text) w → (v : V) × reads (field_lines text) v)
    → FieldDecodes reads text (Err failure) → FieldDecodes others text (Err failure)
FieldDecodes-fails reads others text Refused same says =
    (says.0, λ w read. let other = same w read.1 in says.1 other.0 (read.0, other.1))
FieldDecodes-fails reads others text Memory same says = says
FieldDecodes-fails reads others text Absent same says = says
FieldDecodes-fails reads others text TooLarge same says = says

-- of several lines none is the only one
pub several_lines : (lines : List Line) (values : List FieldValue) → lines ≡ lines_of values → 2 ≤ length values
    → HasLine lines × ((line : Line) → ¬ (only_line lines ≡ Some line))
several_lines lines [] same two = absurd (omega (arith, two))
several_lines lines (value ∷ []) same two = absurd (omega (arith, two))
several_lines lines (value ∷ other ∷ values) same two =
    (rw same (omega arith), λ line only. let none = rw same at only in absurd (cc none))
