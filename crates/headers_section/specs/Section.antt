-- The fields of an input (RFC 9112, sections 2.1, 5 and 5.1).
use Rattle.std.specs.Prelude.{◌≡◌, ℕ, ◌-◌, Bool, true, false, List, [], ◌∷◌, ◌++◌, map, length, take, slice_index, ◌==◌}
use Rattle.std.{specs.Prelude.{if◌then◌else◌, Contains, take_while}, specs.List.{slice_split, AllZip}}
use Rattle.http_header.{specs.Token.lowercase, specs.FieldName.IsFieldName, specs.FieldValue.{FieldValue, IsFieldValue}}
use Rattle.http_header.{specs.FieldValue.plain_value, specs.HeaderMap.{Entries, append_all, RefusesAppend}}
use Rattle.headers.{specs.Lines.Line, specs.Text.trim}

-- the greatest length of an input
abbrev pub input_limit : ℕ
input_limit = 8388608

abbrev pub is_newline : ℕ → Bool
is_newline b = b == 10

-- the line without the byte 13 at its end, if one is there
abbrev pub without_return : Line → Line
without_return line = if slice_index line (length line - 1) == 13 then take (length line - 1) line else line

abbrev pub is_filled : Line → Bool
is_filled [] = false
is_filled (b ∷ rest) = true

-- the pieces between bytes 10, each without a byte 13 at its end
abbrev pub input_lines : List ℕ → List Line
input_lines input = map without_return (slice_split is_newline input)

-- the lines before the first empty one
abbrev pub section : List ℕ → List Line
section input = take_while is_filled (input_lines input)

-- a field: its name in lower case, and its value
abbrev pub Field : Type 0
Field = List ℕ × FieldValue

-- The line is a name, the first colon of the line, and a value. Spaces and tabs at the ends of the value are no part of
-- it.
pub record IsField (line : Line) (field : Field) : Type 0 where
  pub name : List ℕ
  pub rest : List ℕ
  pub line_is : line ≡ name ++ 58 ∷ rest
  pub valid_name : IsFieldName name
  pub valid_value : IsFieldValue (trim rest)
  pub field_is : field ≡ (lowercase name, plain_value (trim rest))

-- the fields of the lines, one each
abbrev pub AreFields : List Line → List Field → Type 0
AreFields lines fields = AllZip IsField lines fields

-- each line is a field
abbrev pub HasOnlyFields : List Line → Type 0
HasOnlyFields lines = (fields : List Field) × AreFields lines fields

-- the line is no field
abbrev pub IsNoField : Line → Type 0
IsNoField line = (field : Field) → ¬ (IsField line field)

-- some line is no field
abbrev pub HasNoField : List Line → Type 0
HasNoField lines = (line : Line) × Contains lines line × IsNoField line

-- the map has the fields of the input, and no other
pub record Holds (input : List ℕ) (map : Entries FieldValue) : Type 0 where
  pub fields : List Field
  pub are_fields : AreFields (section input) fields
  pub held : map ≡ append_all [] fields

-- a map that has the fields before one of them, and no other, has no room for that one
pub record FillsMap (fields : List Field) : Type 0 where
  pub first : List Field
  pub next : Field
  pub later : List Field
  pub split : fields ≡ first ++ next ∷ later
  pub full : RefusesAppend (append_all [] first) next.0

-- the lines before the first empty one are fields, and a map has no room for them
abbrev pub HasTooManyFields : List ℕ → Type 0
HasTooManyFields input = (fields : List Field) × AreFields (section input) fields × FillsMap fields
