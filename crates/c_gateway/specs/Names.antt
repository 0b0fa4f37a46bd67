-- Names of fields, as a caller hands them in.
use Rattle.std.specs.{Prelude.{◌≡◌, ℕ, List, All, map, Result, Ok, Err}, Global.Vec}
use Rattle.{http_header.specs.{FieldName.IsFieldName, Token.lowercase}, headers.specs.{Lines.Line, Typed.HasLine}}
use Rattle.c_parts.specs.{FieldText.field_lines, declared.status.Failure.{Failure, TheVariants.{Refused, Memory}}}
use Rattle.c_parts.specs.declared.status.Failure.TheVariants.{Absent, TooLarge}

-- The names that the lines are, in lower case. `Refused` only if a line is no field name, and `Memory` only if there is
-- a line.
abbrev pub ReadsNames : List Line → Result (Vec (List ℕ)) Failure → Type 0
ReadsNames lines (Ok names) = All IsFieldName lines × (names.items ≡ map lowercase lines)
ReadsNames lines (Err Refused) = ¬ (All IsFieldName lines)
ReadsNames lines (Err Memory) = HasLine lines
ReadsNames lines (Err Absent) = ⊥
ReadsNames lines (Err TooLarge) = ⊥

-- the same of the lines of a text
abbrev pub AreNamesOf : List ℕ → Result (Vec (List ℕ)) Failure → Type 0
AreNamesOf text = ReadsNames (field_lines text)
