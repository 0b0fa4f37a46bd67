-- How the calls on the handle of a connection end.
use Rattle.std.specs.Prelude.{◌≡◌, ℕ, Result}
use Rattle.{c_parts.specs.{Endings.IsTold, declared.status.Failure.Failure}, c_library.specs.CacheStore.ended}

-- a call that tells two things of a value has an answer of which P holds
abbrev pub TellsBoth : {V F G : Type 0} → (V → F) → (V → G) → (Result V Failure → Type 0) → (one new_one : F)
    → (other new_other : G) → (status : ℕ) → Type 0
TellsBoth {V} first second P one new_one other new_other status =
    (answer : Result V Failure) × P answer × IsTold first answer one new_one × IsTold second answer other new_other
    × (status ≡ ended answer)
