-- How calls end: their status, and what is at the caller's pointers.
use Rattle.std.specs.Prelude.{◌≡◌, ℕ, ◌<◌, ◌≤◌, List, length, take, drop, Result, Ok, Err}
use Rattle.c_parts.specs.declared.status.Failure.{Failure, TheVariants.{Refused, Memory, Absent, TooLarge}}

-- the status of a call that gave what it was asked for
abbrev pub done : ℕ
done = 0

-- the status of a call that wrote a text in which a rejection is marked
abbrev pub marked : ℕ
marked = 6

-- the status of a call whose bytes are more than the caller has room for
abbrev pub no_room : ℕ
no_room = 3

abbrev pub status_of : Failure → ℕ
status_of Refused = 1
status_of Memory = 2
status_of Absent = 4
status_of TooLarge = 5

-- the value is in its place; if there is none, the place is as it was
abbrev pub IsGiven : {V : Type 0} → Result V Failure → V → V → ℕ → Type 0
IsGiven (Ok value) old new status = (status ≡ done) × (new ≡ value)
IsGiven (Err failure) old new status = (status ≡ status_of failure) × (new ≡ old)

-- a call that gives one value has an answer of which P holds
abbrev pub Gives : {V : Type 0} → (Result V Failure → Type 0) → V → V → ℕ → Type 0
Gives {V} P old new status = (answer : Result V Failure) × P answer × IsGiven answer old new status

-- the items are at the front of the room, and what follows them is as it was
abbrev pub IsAtFront : {X : Type 0} → List X → List X → List X → Type 0
IsAtFront items old new = (take (length items) new ≡ items) × (drop (length items) new ≡ drop (length items) old)

-- `written` is how many items there are. If they fit they are at the front of the room, and the status is `success`;
-- else the room is as it was.
pub record IsWritten {X : Type 0} (items : List X) (success : ℕ) (old new : List X) (written status : ℕ)
    : Type 0 where
  pub count : written ≡ length items
  pub fit : length items ≤ length old → (status ≡ success) × IsAtFront items old new
  pub short : length old < length items → (status ≡ no_room) × (new ≡ old)

-- the items of the value are written; if there is no value, nothing is
abbrev pub IsHandedOut : {V X : Type 0} → (V → List X) → (V → ℕ) → Result V Failure → (old new : List X)
    → (before written status : ℕ) → Type 0
IsHandedOut items success (Ok value) old new before written status =
    IsWritten (items value) (success value) old new written status
IsHandedOut items success (Err failure) old new before written status =
    (status ≡ status_of failure) × (new ≡ old) × (written ≡ before)

-- a call that writes the items of a value has an answer of which P holds
abbrev pub Writes : {V X : Type 0} → (V → List X) → (V → ℕ) → (Result V Failure → Type 0) → (old new : List X)
    → (before written status : ℕ) → Type 0
Writes {V} items success P old new before written status =
    (answer : Result V Failure) × P answer × IsHandedOut items success answer old new before written status

-- what is told of the value is in its place; if there is no value, the place is as it was
abbrev pub IsTold : {V F : Type 0} → (V → F) → Result V Failure → F → F → Type 0
IsTold told (Ok value) old new = new ≡ told value
IsTold told (Err failure) old new = new ≡ old

-- a call that tells something of a value and writes its items has an answer of which P holds
abbrev pub TellsAndWrites : {V F X : Type 0} → (V → F) → (V → List X) → (Result V Failure → Type 0)
    → (fact new_fact : F) → (old new : List X) → (before written status : ℕ) → Type 0
TellsAndWrites {V} told items P fact new_fact old new before written status =
    (answer : Result V Failure)
    × P answer
    × IsTold told answer fact new_fact
    × IsHandedOut items (λ _. done) answer old new before written status
