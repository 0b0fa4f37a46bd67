-- Values that may not be empty.
use Rattle.std.specs.Prelude.{◌≡◌, ◌⊎◌, ℕ, List, [], Some, Result, Ok, Err}
use Rattle.{http_header.specs.FieldValue.FieldValue, c_decisions.specs.Texts.IsOptionalValue}
use Rattle.c_parts.specs.declared.status.Failure.{Failure, TheVariants.Refused}

-- the field line of a text; `Refused` only if it is empty or can't be a field line
abbrev pub IsFilledValue : List ℕ → Result FieldValue Failure → Type 0
IsFilledValue text (Ok value) = IsOptionalValue text (Ok (Some value))
IsFilledValue text (Err failure) = IsOptionalValue text (Err failure) ⊎ ((failure ≡ Refused) × (text ≡ []))
