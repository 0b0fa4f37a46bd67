-- What happened to a pool, the latest first, and what is to follow from it.
use Rattle.std.specs.Prelude.{ℕ, Bool, false, not, ◌&&◌, ◌+◌, ◌==◌, ◌≡◌, ⊤, IsSome, List, [], ◌∷◌, Option, Some, None}
use Rattle.std.specs.Prelude.{find, if◌then◌else◌}
use Rattle.gateway_pool.specs.declared.pool.{Lease.Lease, Lease.TheVariants.{Reuse, Open}}
use Rattle.gateway_pool.specs.declared.pool.{PooledConnection.PooledConnection}
use Rattle.gateway_pool.specs.Choices.{IsLease, is_down_at, may_take}
use Rattle.gateway_pool.specs.Pools.{Event, Event.{Leased, Opened, FailedToOpen, Ended, Released, Gone, Finished}}
use Rattle.gateway_pool.specs.Pools.{PoolState, named, goes_again, happens, is_opening}

abbrev pub run : List Event → PoolState → PoolState
run [] pool = pool
run (event ∷ earlier) pool = happens event (run earlier pool)

-- each answer to a request was right when it was given
abbrev pub IsRight : Event → PoolState → Type 0
IsRight (Leased request now key lease) pool = IsLease request now key lease pool
IsRight event pool = ⊤

abbrev pub AreRight : List Event → PoolState → Type 0
AreRight [] pool = ⊤
AreRight (event ∷ earlier) pool = IsRight event (run earlier pool) × AreRight earlier pool

-- ---- a connection

abbrev pub is_lease_of : ℕ → Lease → Bool
is_lease_of number (Reuse leased origin) = number == leased
is_lease_of number (Open leased origin) = number == leased
is_lease_of number lease = false

-- a request got the connection, or something happened to it, but for its opening
abbrev pub is_about : ℕ → Event → Bool
is_about number (Leased request now key lease) = is_lease_of number lease
is_about number (FailedToOpen connection now) = number == connection
is_about number (Ended connection) = number == connection
is_about number (Released connection) = number == connection
is_about number (Gone connection) = number == connection
is_about number event = false

abbrev pub is_opening_of : ℕ → Event → Bool
is_opening_of number (Opened connection) = number == connection
is_opening_of number event = false

-- It was opened, and the last that happened to it is that an exchange on it was over, and both sides kept it. So since
-- then no request has got it, it hasn't failed or ended, and no byte came that nobody asked for.
pub record IsKept (number : ℕ) (events : List Event) : Type 0 where
  pub opened : IsSome (find (is_opening_of number) events)
  pub since : find (is_about number) events ≡ Some (Released number)

-- ---- a request

abbrev pub is_for : ℕ → Option ℕ → Bool
is_for request (Some other) = other == request
is_for request None = false

abbrev pub repeats_with : ℕ → Event → PoolState → ℕ → ℕ
repeats_with request (Ended connection) pool before =
    if is_for request (goes_again connection pool) then before + 1 else before
repeats_with request (Finished other) pool before = if other == request then 0 else before
repeats_with request event pool before = before

-- how often it was told to go out again, since it was over last
abbrev pub repeats : ℕ → List Event → PoolState → ℕ
repeats request [] pool = 0
repeats request (event ∷ earlier) pool =
    repeats_with request event (run earlier pool) (repeats request earlier pool)

-- ---- an origin

abbrev pub is_opening_at : ℕ → Option PooledConnection → Bool
is_opening_at origin (Some c) = is_opening c.used && (c.origin == origin)
is_opening_at origin None = false

abbrev pub results_with : ℕ → Event → PoolState → List (Option ℕ) → List (Option ℕ)
results_with origin (Opened connection) pool before =
    if is_opening_at origin (named connection pool) then None ∷ before else before
results_with origin (FailedToOpen connection now) pool before =
    if is_opening_at origin (named connection pool) then Some now ∷ before else before
results_with origin event pool before = before

-- what new connections to it came to: each was opened, or failed at a time
abbrev pub results : ℕ → List Event → PoolState → List (Option ℕ)
results origin [] pool = []
results origin (event ∷ earlier) pool = results_with origin event (run earlier pool) (results origin earlier pool)

abbrev pub failures_in_turn : List (Option ℕ) → ℕ
failures_in_turn (Some now ∷ earlier) = failures_in_turn earlier + 1
failures_in_turn earlier = 0

abbrev pub last_failed_at : List (Option ℕ) → ℕ
last_failed_at (Some now ∷ earlier) = now
last_failed_at earlier = 0

-- it may be taken, and isn't down
abbrev pub is_healthy : (request now : ℕ) → PoolState → ℕ → Bool
is_healthy request now pool origin = may_take request pool origin && not (is_down_at now origin pool)
