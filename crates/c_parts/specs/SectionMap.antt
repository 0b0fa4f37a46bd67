-- The map of the fields of a header section.
use Rattle.{std.specs.Prelude.{ℕ, List, Result, Ok, Err}, http_header.specs.{FieldValue.FieldValue, HeaderMap.Entries}}
use Rattle.http_header.specs.declared.map.HeaderMapError.{HeaderMapError, TheVariants.{MaxSizeReached, OutOfMemory}}
use Rattle.{headers.specs.Typed.HasLine, headers_section.specs.Section.{section, HasNoField, HasTooManyFields, Holds}}
use Rattle.c_parts.specs.declared.status.Failure.{Failure, TheVariants.{Refused, Memory, Absent, TooLarge}}

-- What an answer says of an input: the map of its fields; `Refused` only if a line before the first empty one is no
-- field; `TooLarge` only if all are fields and a map has no room for them; `Memory` only if there is such a line.
abbrev pub IsMapOf : List ℕ → Result (Entries FieldValue) Failure → Type 0
IsMapOf input (Ok map) = Holds input map
IsMapOf input (Err Refused) = HasNoField (section input)
IsMapOf input (Err TooLarge) = HasTooManyFields input
IsMapOf input (Err Memory) = HasLine (section input)
IsMapOf input (Err Absent) = ⊥

-- what the error of a map is to a call
abbrev pub failure_of : HeaderMapError → Failure
failure_of MaxSizeReached = TooLarge
failure_of OutOfMemory = Memory
