-- Field lines and offers, as a caller hands them in.
use Rattle.std.specs.{Prelude.{◌≡◌, ◌≢◌, ℕ, List, [], All, Option, Some, None, Result, Ok, Err}, Global.Vec}
use Rattle.http_header.specs.{FieldValue.{FieldValue, IsFieldValue, plain_value}, HeaderMap.{Entries, get_all}}
use Rattle.{headers.specs.{Lines.lines_of, Typed.HasLine}, c_parts.specs.FieldText.field_lines}
use Rattle.c_parts.specs.declared.status.Failure.{Failure, TheVariants.{Refused, Memory, Absent, TooLarge}}

-- the values are the lines of the text
abbrev pub AreValuesOf : List ℕ → List FieldValue → Type 0
AreValuesOf text values = All IsFieldValue (field_lines text) × (field_lines text ≡ lines_of values)

-- why a text gives nothing: `Refused` only if a line can't be a header value, `Memory` only if there is a line
abbrev pub FailsAt : List ℕ → Failure → Type 0
FailsAt text Refused = ¬ (All IsFieldValue (field_lines text))
FailsAt text Memory = HasLine (field_lines text)
FailsAt text Absent = ⊥
FailsAt text TooLarge = ⊥

abbrev pub IsValuesOf : List ℕ → Result (Vec FieldValue) Failure → Type 0
IsValuesOf text (Ok values) = AreValuesOf text values.items
IsValuesOf text (Err failure) = FailsAt text failure

-- the map has the lines of the text under the name
abbrev pub IsFieldOf : List ℕ → List ℕ → Result (Entries FieldValue) Failure → Type 0
IsFieldOf name text (Ok map) = AreValuesOf text (get_all map name)
IsFieldOf name text (Err failure) = FailsAt text failure

-- the field line of a text, or none if it is empty
abbrev pub IsOptionalValue : List ℕ → Result (Option FieldValue) Failure → Type 0
IsOptionalValue text (Ok None) = text ≡ []
IsOptionalValue text (Ok (Some value)) = (text ≢ []) × IsFieldValue text × (value ≡ plain_value text)
IsOptionalValue text (Err Refused) = ¬ (IsFieldValue text)
IsOptionalValue text (Err Memory) = text ≢ []
IsOptionalValue text (Err Absent) = ⊥
IsOptionalValue text (Err TooLarge) = ⊥
