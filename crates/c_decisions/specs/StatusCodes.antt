-- Status codes, as a caller hands them in.
use Rattle.std.specs.Prelude.{◌≡◌, ℕ, Result, Ok, Err}
use Rattle.{http.specs.StatusCode.IsStatusCode, c_parts.specs.declared.status.Failure.{Failure, TheVariants.Refused}}

-- the status, if the number is one
abbrev pub IsStatusOf : ℕ → Result ℕ Failure → Type 0
IsStatusOf number (Ok status) = IsStatusCode number × (status ≡ number)
IsStatusOf number (Err failure) = (failure ≡ Refused) × ¬ (IsStatusCode number)
