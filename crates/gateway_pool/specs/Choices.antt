-- Which origin server a request is for, and which connection it goes out on.
use Rattle.std.specs.Prelude.{ℕ, Bool, true, false, not, ◌&&◌, ◌+◌, ◌-◌, ◌*◌, ◌/◌, ◌%◌, ◌^◌, ◌≡◌, ◌<◌, ◌≤◌, ◌⊎◌, IsTrue}
use Rattle.std.specs.Prelude.{MatchOption}
use Rattle.std.specs.Prelude.{Option, Some, None, count_by, find, length, nat_lt, if◌then◌else◌}
use Rattle.gateway_pool.specs.declared.pool.{Lease.Lease, Lease.TheVariants.{Reuse, Open, NoOrigin, Full}}
use Rattle.gateway_pool.specs.declared.pool.{PooledConnection.PooledConnection}
use Rattle.gateway_pool.specs.Pools.{PoolState, health_of, is_down, is_idle_at, is_used_at, was_repeated, was_tried}

-- ---- rendezvous hashing: a key goes to the origin whose hash with it is the greatest

abbrev pub stirred : ℕ → ℕ
stirred x = let y = (x * 11400714819323198485) % 2 ^ 64 in y / 4294967296 + (y % 4294967296) * 4294967296

abbrev pub hash_of : (key origin : ℕ) → ℕ
hash_of key origin = stirred (stirred (stirred ((key + (origin * 13787848793156543929) % 2 ^ 64) % 2 ^ 64)))

-- ---- the order in which origins are asked: those that aren't down before the others, the cheaper first

abbrev pub cost : (key origin : ℕ) → PoolState → ℕ
cost key origin pool =
    if pool.rules.hashes then 2 ^ 64 - 1 - hash_of key origin else count_by (is_used_at origin) pool.connections

abbrev pub is_down_at : (now origin : ℕ) → PoolState → Bool
is_down_at now origin pool = is_down pool.rules now (health_of origin pool)

abbrev pub rank : (now key : ℕ) → PoolState → ℕ → ℕ
rank now key pool origin = (if is_down_at now origin pool then 2 ^ 64 else 0) + cost key origin pool

-- an origin that the request hasn't failed at, with room for one more
abbrev pub may_take : ℕ → PoolState → ℕ → Bool
may_take request pool origin =
    nat_lt origin (length pool.origins) && (not (was_tried request origin pool)
    && nat_lt (count_by (is_used_at origin) pool.connections) pool.rules.most)

-- an origin of the least rank, and the first of these
abbrev pub IsFirst : (ℕ → Bool) → (ℕ → ℕ) → ℕ → Type 0
IsFirst may rank origin = IsTrue (may origin)
    × ((other : ℕ) → IsTrue (may other) → (rank origin < rank other) ⊎ ((rank origin ≡ rank other) × (origin ≤ other)))

-- one of this rank is asked before the best so far, which has the least rank
abbrev pub comes_first : Option ℕ → (rank least : ℕ) → Bool
comes_first None rank least = true
comes_first (Some best) rank least = nat_lt rank least

abbrev pub IsChosen : (request now key : ℕ) → PoolState → ℕ → Type 0
IsChosen request now key pool = IsFirst (may_take request pool) (rank now key pool)

-- ---- leases

-- the idle connection that was opened first
abbrev pub idle_one : ℕ → PoolState → Option PooledConnection
idle_one origin pool = find (is_idle_at origin) pool.connections

-- it goes out on an idle connection, or if it is repeated or there is none on a new one
abbrev pub IsLease : (request now key : ℕ) → Lease → PoolState → Type 0
IsLease request now key (Reuse number origin) pool = IsChosen request now key pool origin
    × IsTrue (not (was_repeated request pool))
    × MatchOption (idle_one origin pool) ⊥ (λ connection. connection.number ≡ number)
IsLease request now key (Open number origin) pool = IsChosen request now key pool origin
    × (IsTrue (was_repeated request pool) ⊎ (idle_one origin pool ≡ None))
    × (number ≡ pool.next) × (pool.next < 2 ^ 64 - 1)
-- each origin has failed for this request
IsLease request now key NoOrigin pool =
    (origin : ℕ) → origin < length pool.origins → IsTrue (was_tried request origin pool)
-- no other origin has room, or there is no number
IsLease request now key Full pool =
    ((origin : ℕ) → may_take request pool origin ≡ false) ⊎ (pool.next ≡ 2 ^ 64 - 1)
