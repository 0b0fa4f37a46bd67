-- What a pool knows of origin servers and of the connections to them, and what each event makes of it.
use Rattle.std.specs.Prelude.{ℕ, Bool, true, false, not, ◌&&◌, ◌+◌, ◌-◌, ◌^◌, ◌==◌, List, [], ◌∷◌, ◌++◌, Option, Some}
use Rattle.std.specs.Prelude.{None}
use Rattle.std.specs.Prelude.{count_by, filter, find, is_some, map, min, nat_le, nat_lt, replicate, slice_index_or}
use Rattle.std.specs.Prelude.{slice_set}
use Rattle.std.specs.Prelude.{if◌then◌else◌}
use Rattle.gateway_pool.specs.declared.pool.{ConnectionUse.ConnectionUse, Health.Health, Lease.Lease, Pool.Pool}
use Rattle.gateway_pool.specs.declared.pool.{ConnectionUse.TheVariants.{Opening, Busy, Idle}}
use Rattle.gateway_pool.specs.declared.pool.{Lease.TheVariants.{Reuse, Open}, Change.Change}
use Rattle.gateway_pool.specs.declared.pool.{Change.TheVariants.{Lent, Opens, Kept}, PoolRules.PoolRules}
use Rattle.gateway_pool.specs.declared.pool.{PooledConnection.PooledConnection, Tried.Tried}

pub record PoolState : Type 0 where
  pub rules : PoolRules
  pub origins : List Health
  pub connections : List PooledConnection
  -- the origins that no connection could be opened to, for a request that goes on
  pub tried : List Tried
  -- the requests that were repeated, and go on
  pub repeated : List ℕ
  -- the number of the next connection
  pub next : ℕ

abbrev pub state_of : Pool → PoolState
state_of pool = record {
  rules = pool.rules;
  origins = pool.origins.items;
  connections = pool.connections.items;
  tried = pool.tried.items;
  repeated = pool.repeated.items;
  next = pool.next;
}

-- ---- connections

abbrev pub is_idle : ConnectionUse → Bool
is_idle Idle = true
is_idle used = false

abbrev pub is_opening : ConnectionUse → Bool
is_opening (Opening request) = true
is_opening used = false

-- the request that has a connection which was opened
abbrev pub busy_for : ConnectionUse → Option ℕ
busy_for (Busy request) = Some request
busy_for used = None

abbrev pub is_named : ℕ → PooledConnection → Bool
is_named number connection = connection.number == number

abbrev pub is_idle_at : ℕ → PooledConnection → Bool
is_idle_at origin connection = (connection.origin == origin) && is_idle connection.used

-- a request has it
abbrev pub is_used_at : ℕ → PooledConnection → Bool
is_used_at origin connection = (connection.origin == origin) && not (is_idle connection.used)

abbrev pub named : ℕ → PoolState → Option PooledConnection
named number pool = find (is_named number) pool.connections

abbrev pub others : ℕ → List PooledConnection → List PooledConnection
others number connections = filter (λ c. not (is_named number c)) connections

-- how a change of its use leaves a connection that is used so
abbrev pub changed : Change → ConnectionUse → ConnectionUse
changed (Lent request) Idle = Busy request
changed Opens (Opening request) = Busy request
changed Kept (Busy request) = Idle
changed change used = used

abbrev pub changed_at : Change → (number : ℕ) → PooledConnection → PooledConnection
changed_at change number c = if c.number == number then record c { used = changed change c.used } else c

-- ---- origins

abbrev pub fresh_health : Health
fresh_health = record { failures = 0; failed_at = 0 }

abbrev pub failed_once_more : ℕ → Health → Health
failed_once_more now health = record { failures = min (health.failures + 1) (2 ^ 64 - 1); failed_at = now }

abbrev pub health_of : ℕ → PoolState → Health
health_of origin pool = slice_index_or pool.origins origin fresh_health

-- as many failures in turn as the rules count, the last of them not long ago
abbrev pub is_down : PoolRules → ℕ → Health → Bool
is_down rules now health = nat_le rules.failures health.failures && nat_lt (now - health.failed_at) rules.pause

-- ---- requests

abbrev pub is_of : ℕ → Tried → Bool
is_of request tried = tried.request == request

abbrev pub is_tried : (request origin : ℕ) → Tried → Bool
is_tried request origin tried = (tried.request == request) && (tried.origin == origin)

abbrev pub was_tried : (request origin : ℕ) → PoolState → Bool
was_tried request origin pool = is_some (find (is_tried request origin) pool.tried)

abbrev pub is_request : ℕ → ℕ → Bool
is_request request other = other == request

abbrev pub was_repeated : ℕ → PoolState → Bool
was_repeated request pool = is_some (find (is_request request) pool.repeated)

-- ---- what happens

pub data Event : Type 0 where
  -- a request asks for a connection at this time, and gets this answer
  Leased : (request now key : ℕ) → Lease → Event
  -- a connection was opened, or it couldn't be
  Opened : (connection : ℕ) → Event
  FailedToOpen : (connection now : ℕ) → Event
  -- it ended before an answer, so that its request may be repeated
  Ended : (connection : ℕ) → Event
  -- the exchange on it is over, and it may be used again
  Released : (connection : ℕ) → Event
  -- it has ended, or had a byte that nobody asked for, or is closed
  Gone : (connection : ℕ) → Event
  -- the request is over
  Finished : (request : ℕ) → Event

-- the health of an origin once a connection to it was opened, or not
abbrev pub after_opening : Option PooledConnection → List Health → List Health
after_opening None origins = origins
after_opening (Some c) origins = if is_opening c.used then slice_set origins c.origin fresh_health else origins

abbrev pub after_failure : ℕ → Option PooledConnection → List Health → List Health
after_failure now None origins = origins
after_failure now (Some c) origins =
    if is_opening c.used
    then slice_set origins c.origin (failed_once_more now (slice_index_or origins c.origin fresh_health)) else origins

abbrev pub tried_by : ConnectionUse → ℕ → List Tried → List Tried
tried_by (Opening request) origin tried = tried ++ record { request = request; origin = origin } ∷ []
tried_by used origin tried = tried

abbrev pub tried_with : Option PooledConnection → List Tried → List Tried
tried_with None tried = tried
tried_with (Some c) tried = tried_by c.used c.origin tried

-- the request that has a connection
abbrev pub request_on : Option PooledConnection → Option ℕ
request_on None = None
request_on (Some c) = busy_for c.used

-- it may go out again: it has done so never before
abbrev pub goes_again_once : Option ℕ → PoolState → Option ℕ
goes_again_once None pool = None
goes_again_once (Some request) pool = if was_repeated request pool then None else Some request

abbrev pub goes_again : ℕ → PoolState → Option ℕ
goes_again number pool = goes_again_once (request_on (named number pool)) pool

abbrev pub repeated_with : Option ℕ → List ℕ → List ℕ
repeated_with None repeated = repeated
repeated_with (Some request) repeated = repeated ++ request ∷ []

-- a connection that was opened is kept, while there is room
abbrev pub may_keep : Option PooledConnection → PoolState → Bool
may_keep None pool = false
may_keep (Some c) pool =
    not (is_opening c.used) && nat_lt (count_by (is_idle_at c.origin) pool.connections) pool.rules.idle

abbrev pub leased : ℕ → Lease → PoolState → PoolState
leased request (Reuse number origin) pool =
    record pool { connections = map (changed_at (Lent request) number) pool.connections }
leased request (Open number origin) pool = record pool {
  connections = pool.connections ++ record { number = number; origin = origin; used = Opening request } ∷ [];
  next = pool.next + 1;
}
leased request lease pool = pool

abbrev pub happens : Event → PoolState → PoolState
happens (Leased request now key lease) pool = leased request lease pool
happens (Opened number) pool = record pool {
  origins = after_opening (named number pool) pool.origins;
  connections = map (changed_at Opens number) pool.connections;
}
happens (FailedToOpen number now) pool = record pool {
  origins = after_failure now (named number pool) pool.origins;
  connections = others number pool.connections;
  tried = tried_with (named number pool) pool.tried;
}
happens (Ended number) pool = record pool {
  connections = others number pool.connections;
  repeated = repeated_with (goes_again number pool) pool.repeated;
}
happens (Released number) pool = record pool {
  connections = if may_keep (named number pool) pool
      then map (changed_at Kept number) pool.connections else others number pool.connections;
}
happens (Gone number) pool = record pool { connections = others number pool.connections }
happens (Finished request) pool = record pool {
  tried = filter (λ tried. not (is_of request tried)) pool.tried;
  repeated = filter (λ other. not (is_request request other)) pool.repeated;
}

abbrev pub start : PoolRules → ℕ → PoolState
start rules count = record {
  rules = rules;
  origins = replicate count fresh_health;
  connections = [];
  tried = [];
  repeated = [];
  next = 0;
}
