-- Dates, as a caller hands them in.
use Rattle.std.specs.Prelude.{◌≡◌, ℕ, Result, Ok, Err}
use Rattle.{headers.specs.Date.IsDated, c_parts.specs.declared.status.Failure.{Failure, TheVariants.Refused}}

-- the date of a second since the start of 1970; `Refused` only if it lies past the year 9999
abbrev pub IsDateOf : ℕ → Result ℕ Failure → Type 0
IsDateOf second (Ok date) = IsDated second × (date ≡ second)
IsDateOf second (Err failure) = (failure ≡ Refused) × ¬ (IsDated second)
