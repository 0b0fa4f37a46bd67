-- Handles of gateways' connections.
use Rattle.std.proofs.Common.{◌≡◌, Option, Some, None, Result, Ok, Err, refl}
use Rattle.gateway_connection.specs.declared.origin.OriginConnection.{OriginConnection}
use Rattle.c_parts.{specs.declared.status.Failure.Failure, specs.declared.status.Failure.TheVariants.Absent}
use Rattle.c_handles.{specs.declared.held.Held.Held, specs.declared.held.HeldGate.HeldGate}
use Rattle.c_handles.specs.declared.held.Held.TheVariants as held
use Rattle.c_gate.specs.{Calls.OnGate, Moves.IsTunnelOf, Origins.{ForwardsIn, IsOpenedWith, IsTaken, TakesOver}}

-- a handle is opened with what is taken
pub taken_over : (old new : Option Held) (origin : OriginConnection) (after : Option Held)
    (answer : Result (Unit {0}) Failure) → OnGate IsTaken old new (Ok origin)
    → IsOpenedWith (Some origin) after answer → TakesOver old new None after answer
taken_over (Some (held.Gate old)) (Some (held.Gate new)) origin after answer taken opened = (Some origin, taken, opened)
taken_over (Some (held.Gate old)) new origin after answer taken opened = absurd taken
taken_over old new origin after answer taken opened = absurd (cc taken.0)

-- what is no connection to an origin isn't forwarded over
pub unfit : (old origin : Held) → ((connection : OriginConnection) → origin ≡ held.GateOrigin connection → ⊥)
    → ForwardsIn old old origin (Err Absent)
unfit (held.Gate gate) (held.GateOrigin connection) other = absurd (other connection refl)
unfit old origin other = (refl, refl)

-- what is no connection goes on as nothing else
pub no_tunnel : (old : Held) → ((gate : HeldGate) → old ≡ held.Gate gate → ⊥) → IsTunnelOf old (Err Absent)
no_tunnel (held.Gate gate) other = absurd (other gate refl)
no_tunnel old other = refl
