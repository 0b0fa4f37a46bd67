-- Where passes are in the queue of their cache.
use Rattle.std.specs.Prelude.{◌≡◌, ◌⊎◌, ℕ, Option, Some, None, Ok, Err, alloc_error}
use Rattle.cache_pass.specs.{Passes.key_of, Queue.{Collapses, Enters, HasLeft, number_ahead}, declared.pass.Pass.Pass}
use Rattle.cache_pass.specs.declared.{pass.Phase.{Phase, TheVariants.Ended}, queue.Queue.Queue}
use Rattle.c_pass.specs.declared.held.Place.{Place, TheVariants.{Apart, Ahead}}

-- the number of the request for which a pass waits before it asks
abbrev pub IsAhead : Queue → Pass → ℕ → Option ℕ → Type 0
IsAhead queue pass now None = (¬ (Collapses pass)) ⊎ (number_ahead queue (key_of pass) now ≡ None)
IsAhead queue pass now (Some number) = Collapses pass × (number_ahead queue (key_of pass) now ≡ Some number)

-- the place of what has entered under a number, or hasn't
abbrev pub place_ahead : Option ℕ → Place
place_ahead (Some number) = Ahead number
place_ahead None = Apart

-- a pass that asks enters, if others may wait for it
abbrev pub IsPlaced : Pass → ℕ → (old new : Queue) → Place → Type 0
IsPlaced pass now old new place =
    ((¬ (Collapses pass)) × (new ≡ old) × (place ≡ Apart))
    ⊎ (Collapses pass
    × ((number : Option ℕ) × Enters (key_of pass) now old new (Ok number) × (place ≡ place_ahead number)))

-- memory runs out for that
abbrev pub IsUnplaced : Pass → ℕ → (old new : Queue) → Type 0
IsUnplaced pass now old new = Collapses pass × Enters (key_of pass) now old new (Err alloc_error)

-- A pass that has ended leaves. Any other stays at its place.
abbrev pub IsSettled : Phase → (was : Place) → (old new : Queue) → Place → Type 0
IsSettled Ended (Ahead number) old new place = HasLeft number old new × (place ≡ Apart)
IsSettled phase was old new place = (new ≡ old) × (place ≡ was)
