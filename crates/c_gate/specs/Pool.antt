-- Calls on the connections to origins that a handle has.
use Rattle.std.specs.Prelude.{◌≡◌, ℕ, is_some, Option, Some, Result, Ok, Err}
use Rattle.gateway_pool.specs.{Choices.IsLease, declared.pool.{Lease.Lease, Pool.Pool, PoolRules.PoolRules}}
use Rattle.gateway_pool.specs.declared.pool.Lease.TheVariants.{Reuse, Open, NoOrigin, Full}
use Rattle.gateway_pool.specs.Pools.{Event, Event.{Ended, Leased, Released}, goes_again, happens, may_keep}
use Rattle.gateway_pool.specs.Pools.{named, start, state_of}
use Rattle.c_parts.specs.declared.status.Failure.{Failure, TheVariants.{Memory, Absent}}
use Rattle.c_decisions.specs.Flags.{flag_of}
use Rattle.c_handles.specs.declared.held.Held.{Held}
use Rattle.c_handles.specs.declared.held.Held.TheVariants as held
use Rattle.c_gate.specs.declared.pool.{LeaseFacts.LeaseFacts, PoolOptions.PoolOptions}

-- An open handle of a pool stays open, and this becomes of it. Any other stays as it was, and the answer is `Absent`.
abbrev pub OnPool : {V : Type 0} → (Pool → Pool → Result V Failure → Type 0) → (old new : Option Held)
    → Result V Failure → Type 0
OnPool P (Some (held.GatePool old)) (Some (held.GatePool new)) answer = P old new answer
OnPool P (Some (held.GatePool old)) other answer = ⊥
OnPool P old new answer = (answer ≡ Err Absent) × (new ≡ old)

-- this happens to it
abbrev pub Becomes : Event → Pool → Pool → Type 0
Becomes event old new = state_of new ≡ happens event (state_of old)

-- out of memory nothing happens
abbrev pub Stays : Pool → Pool → Failure → Type 0
Stays old new failure = (failure ≡ Memory) × (state_of new ≡ state_of old)

abbrev pub rules_of : PoolOptions → PoolRules
rules_of given = record {
  failures = given.failures;
  pause = given.pause;
  most = given.most;
  idle = given.idle;
  hashes = given.hashes;
}

abbrev pub IsPoolHeld : PoolOptions → Result Held Failure → Type 0
IsPoolHeld given (Ok (held.GatePool pool)) = state_of pool ≡ start (rules_of given) given.origins
IsPoolHeld given (Ok other) = ⊥
IsPoolHeld given (Err failure) = failure ≡ Memory

abbrev pub facts_of : Lease → LeaseFacts
facts_of (Reuse number origin) = record { connection = number; origin = origin; kind = 0 }
facts_of (Open number origin) = record { connection = number; origin = origin; kind = 1 }
facts_of NoOrigin = record { connection = 0; origin = 0; kind = 2 }
facts_of Full = record { connection = 0; origin = 0; kind = 3 }

abbrev pub Leases : (request now key : ℕ) → Pool → Pool → Result LeaseFacts Failure → Type 0
Leases request now key old new (Ok facts) = (lease : Lease) × (facts ≡ facts_of lease)
    × IsLease request now key lease (state_of old) × Becomes (Leased request now key lease) old new
Leases request now key old new (Err failure) = Stays old new failure

-- this happens
abbrev pub Goes : Event → Pool → Pool → Result (Unit {0}) Failure → Type 0
Goes event old new (Ok tt) = Becomes event old new
Goes event old new (Err failure) = ⊥

-- this happens, or out of memory nothing does
abbrev pub MayGo : Event → Pool → Pool → Result (Unit {0}) Failure → Type 0
MayGo event old new (Ok tt) = Becomes event old new
MayGo event old new (Err failure) = Stays old new failure

abbrev pub Ends : ℕ → Pool → Pool → Result ℕ Failure → Type 0
Ends connection old new (Ok again) =
    (again ≡ flag_of (is_some (goes_again connection (state_of old)))) × Becomes (Ended connection) old new
Ends connection old new (Err failure) = Stays old new failure

abbrev pub Releases : ℕ → Pool → Pool → Result ℕ Failure → Type 0
Releases connection old new (Ok kept) =
    (kept ≡ flag_of (may_keep (named connection (state_of old)) (state_of old))) × Becomes (Released connection) old new
Releases connection old new (Err failure) = ⊥
