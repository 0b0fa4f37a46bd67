-- How the calls on the handle of a cache end.
use Rattle.std.specs.Prelude.{◌≡◌, ℕ, Option, unwrap_or, Result, Ok, Err}
use Rattle.c_parts.{specs.Endings.{IsTold, done, status_of}, specs.declared.status.Failure.Failure}

-- the status of an answer
abbrev pub ended : {V : Type 0} → Result V Failure → ℕ
ended (Ok value) = done
ended (Err failure) = status_of failure

-- a call that gives nothing else has an answer of which P holds
abbrev pub Ends : {V : Type 0} → (Result V Failure → Type 0) → ℕ → Type 0
Ends {V} P status = (answer : Result V Failure) × P answer × (status ≡ ended answer)

-- a call that gives a number, 0 if there is none, has an answer of which P holds
abbrev pub TellsNumber : (Result (Option ℕ) Failure → Type 0) → (old new status : ℕ) → Type 0
TellsNumber P old new status =
    (answer : Result (Option ℕ) Failure) × P answer × IsTold (λ found. unwrap_or found 0) answer old new
    × (status ≡ ended answer)
