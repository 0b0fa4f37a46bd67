-- The lines of a field as one text.
use Rattle.std.specs.Prelude.{◌≡◌, ℕ, ◌-◌, List, [], ◌∷◌, length, take, slice_index, All, if◌then◌else◌, ◌==◌, Result}
use Rattle.{std.specs.Prelude.{Ok, Err}, http_header.specs.{FieldName.IsFieldName, FieldValue.IsFieldValue}}
use Rattle.{http_header.specs.{StandardHeader.IsStandardName, Token.lowercase}, headers.specs.Lines.Line}
use Rattle.{headers.specs.Typed.HasLine, headers_section.specs.Section.input_lines}
use Rattle.c_parts.specs.declared.status.Failure.{Failure, TheVariants.{Refused, Memory, Absent, TooLarge}}

-- the bytes without their last one, if it is this one
abbrev pub without_last : ℕ → List ℕ → List ℕ
without_last byte bytes = if slice_index bytes (length bytes - 1) == byte then take (length bytes - 1) bytes else bytes

-- The lines of a text. Each ends in a byte 10, which the last one needn't have; a byte 13 before it, or at the end of
-- the text, is no part of the line. The empty text has no line.
abbrev pub field_lines : List ℕ → List Line
field_lines [] = []
field_lines (byte ∷ text) = input_lines (without_last 10 (byte ∷ text))

-- each line of the text may be a header value, and the lines decode to the value
abbrev pub FieldReads : {V : Type 0} → (List Line → V → Type 0) → List ℕ → V → Type 0
FieldReads reads text value = All IsFieldValue (field_lines text) × reads (field_lines text) value

-- What an answer says of a text: a value only if its lines encode it, `Refused` only if there are lines, which give
-- nothing, `Absent` only if there is no line, and `Memory` only if there are lines.
abbrev pub FieldDecodes : {V : Type 0} → (List Line → V → Type 0) → List ℕ → Result V Failure → Type 0
FieldDecodes reads text (Ok value) = HasLine (field_lines text) × FieldReads reads text value
FieldDecodes {V} reads text (Err Refused) =
    HasLine (field_lines text) × ((value : V) → ¬ (FieldReads reads text value))
FieldDecodes reads text (Err Absent) = field_lines text ≡ []
FieldDecodes reads text (Err Memory) = HasLine (field_lines text)
FieldDecodes reads text (Err TooLarge) = ⊥

-- The name of these bytes, in lower case. `Refused` only if they are none, and `Memory` only if they are one that isn't
-- standard: it is copied to the heap.
abbrev pub IsNameOf : List ℕ → Result (List ℕ) Failure → Type 0
IsNameOf bytes (Ok name) = IsFieldName bytes × (name ≡ lowercase bytes)
IsNameOf bytes (Err Refused) = ¬ (IsFieldName bytes)
IsNameOf bytes (Err Memory) = IsFieldName bytes × ¬ (IsStandardName (lowercase bytes))
IsNameOf bytes (Err Absent) = ⊥
IsNameOf bytes (Err TooLarge) = ⊥
