-- When a stored response answers because the origin fails (RFC 5861, section 4).
use Rattle.std.specs.Prelude.{◌≡◌, ◌⊎◌, ⊤, ℕ, Option, Some, None}
use Rattle.cache_policy.specs.declared.decision.Decision.{Decision, TheVariants.RevalidateOrServe}

-- the status says that the origin failed
abbrev pub IsFailure : ℕ → Type 0
IsFailure status = (status ≡ 500) ⊎ (status ≡ 502) ⊎ (status ≡ 503) ⊎ (status ≡ 504)

-- the origin gave no response, or one that says that it failed
abbrev pub Failed : Option ℕ → Type 0
Failed None = ⊤
Failed (Some status) = IsFailure status

-- the decision lets the stored response answer if the origin fails, and it failed
abbrev pub ServesOnError : Decision → Option ℕ → Type 0
ServesOnError decision status = (decision ≡ RevalidateOrServe) × Failed status
