-- Requests for which the origin is asked now: others for the same may wait for one of them (RFC 9111, section 4).
use Rattle.{cache_pass.specs.Passes.{asked_of, request_of_pass}, cache_store.specs.Parts.Answering.IsForWhole}
use Rattle.cache_pass.specs.declared.{pass.Pass.Pass, queue.{PendingRequest.PendingRequest, Queue.Queue}}
use Rattle.std.specs.{declared.alloc.AllocError.AllocError, Prelude.{◌==◌, find, Some}}
use Rattle.std.specs.Prelude.{[], ◌&&◌, ◌+◌, ◌∷◌, Bool, bytes_eq, is_some, IsSome, None, not, Ok, Option, option_map}
use Rattle.std.specs.Prelude.{◌++◌, ◌-◌, ◌<◌, ◌^◌, ◌≡◌, Err, filter, List, nat_le, nat_lt, Result, string_bytes, ℕ}

-- the pass asks the origin for the whole representation
pub record Collapses (pass : Pass) : Type 0 where
  pub asks : IsSome (asked_of pass.phase)
  pub whole : IsForWhole (request_of_pass pass)

-- it asked less than so many seconds ago
abbrev pub is_within : (limit now : ℕ) → PendingRequest → Bool
is_within limit now entry = nat_le entry.asked now && nat_lt now (entry.asked + limit)

-- it is for this target, too
abbrev pub is_ahead : (limit now : ℕ) → List ℕ → PendingRequest → Bool
is_ahead limit now key entry = bytes_eq (string_bytes entry.key) key && is_within limit now entry

-- it has this number, too
abbrev pub is_named : (limit now number : ℕ) → PendingRequest → Bool
is_named limit now number entry = entry.number == number && is_within limit now entry

-- the number of the first request for a target that others may wait for
abbrev pub number_ahead : Queue → List ℕ → ℕ → Option ℕ
number_ahead queue key now =
    option_map (λ entry. entry.number) (find (is_ahead queue.limit now key) queue.entries.items)

-- others may wait for the request with this number
abbrev pub is_open : Queue → (number now : ℕ) → Bool
is_open queue number now = is_some (find (is_named queue.limit now number) queue.entries.items)

-- others may wait for one more request: for some seconds, and there is a number for it
abbrev pub MayEnter : Queue → Type 0
MayEnter queue = (0 < queue.limit) × (queue.next < 2 ^ 64 - 1)

-- the request with this number has left
pub record HasLeft (number : ℕ) (old new : Queue) : Type 0 where
  pub limit : new.limit ≡ old.limit
  pub next : new.next ≡ old.next
  pub rest : new.entries.items ≡ filter (λ entry. not (entry.number == number)) old.entries.items

module _ (key : List ℕ) (now : ℕ) (old new : Queue) where
  -- those that asked too long ago have left
  abbrev pub still_open : List PendingRequest
  still_open = filter (is_within old.limit now) old.entries.items

  -- the request has entered behind them, under the next number
  pub record HasEntered (number : ℕ) : Type 0 where
    pub may : MayEnter old
    pub limit : new.limit ≡ old.limit
    pub number_is : number ≡ old.next
    pub next : new.next ≡ old.next + 1
    pub entry : PendingRequest
    pub named : entry.number ≡ number
    pub key_is : string_bytes entry.key ≡ key
    pub asked : entry.asked ≡ now
    pub all : new.entries.items ≡ still_open ++ entry ∷ []

  -- it hasn't
  pub record IsOutside : Type 0 where
    pub limit : new.limit ≡ old.limit
    pub next : new.next ≡ old.next
    pub all : new.entries.items ≡ still_open

  -- it enters if others may wait for it, unless memory runs out
  abbrev pub Enters : Result (Option ℕ) AllocError → Type 0
  Enters (Ok (Some number)) = HasEntered number
  Enters (Ok None) = (¬ (MayEnter old)) × IsOutside
  Enters (Err error) = MayEnter old × IsOutside
