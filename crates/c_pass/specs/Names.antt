-- Names of fields, as a caller hands them in.
use Rattle.std.specs.{Prelude.{◌≡◌, ℕ, List, All, map, Result, Ok, Err}, Global.Vec}
use Rattle.{http_header.specs.{FieldName.IsFieldName, Token.lowercase}, headers.specs.{Lines.Line, Typed.HasLine}}
use Rattle.c_parts.specs.{FieldText.field_lines, declared.status.Failure.{Failure, TheVariants.{Refused, Memory}}}
use Rattle.c_parts.specs.declared.status.Failure.TheVariants.{Absent, TooLarge}

-- each line of a text is the name of a field
abbrev pub AreNames : List ℕ → Type 0
AreNames text = All IsFieldName (field_lines text)

-- the names that its lines are, in lower case
abbrev pub names_in : List ℕ → List (List ℕ)
names_in text = map lowercase (field_lines text)

-- What an answer says of lines: the names that they are, in their order; `Refused` only if some line is none, and
-- `Memory` only if there is a line.
abbrev pub IsNamesOf : List Line → Result (Vec (List ℕ)) Failure → Type 0
IsNamesOf lines (Ok names) = All IsFieldName lines × (names.items ≡ map lowercase lines)
IsNamesOf lines (Err Refused) = ¬ (All IsFieldName lines)
IsNamesOf lines (Err Memory) = HasLine lines
IsNamesOf lines (Err Absent) = ⊥
IsNamesOf lines (Err TooLarge) = ⊥
