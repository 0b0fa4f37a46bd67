-- What a call on a handle does to the gateway's connection, or to the tunnel, that the handle has.
use Rattle.std.specs.Prelude.{◌≡◌, ◌≢◌, ℕ, List, [], Option, Some, None, Result, Ok, Err}
use Rattle.gateway_exchange.specs.declared.connection.GatewayConnection.{GatewayConnection}
use Rattle.gateway_exchange.specs.declared.{rules.GatewayRules.GatewayRules, tunnel.Tunnel.Tunnel}
use Rattle.c_parts.specs.declared.status.Failure.{Failure, TheVariants.{Refused, Memory, Absent}}
use Rattle.c_handles.specs.declared.held.{Held.Held, HeldGate.HeldGate}
use Rattle.c_handles.specs.declared.held.Held.TheVariants as held

-- the gateway's connection that a handle has
abbrev pub gate_in : Option Held → Option HeldGate
gate_in (Some (held.Gate gate)) = Some gate
gate_in other = None

-- the rules that a handle has
abbrev pub rules_in : Option Held → Option GatewayRules
rules_in (Some (held.GateRules rules)) = Some rules
rules_in other = None

-- An open handle of a connection stays open, and this becomes of it. Any other stays as it was, and the answer is
-- `Absent`.
abbrev pub OnGate : {V : Type 0} → (HeldGate → HeldGate → Result V Failure → Type 0) → (old new : Option Held)
    → Result V Failure → Type 0
OnGate P (Some (held.Gate old)) (Some (held.Gate new)) answer = P old new answer
OnGate P (Some (held.Gate old)) other answer = ⊥
OnGate P old new answer = (answer ≡ Err Absent) × (new ≡ old)

-- the same of a connection, or of a tunnel
abbrev pub OnEither : {V : Type 0} → (HeldGate → HeldGate → Result V Failure → Type 0)
    → (Tunnel → Tunnel → Result V Failure → Type 0) → (old new : Option Held) → Result V Failure → Type 0
OnEither P Q (Some (held.Gate old)) (Some (held.Gate new)) answer = P old new answer
OnEither P Q (Some (held.Gate old)) other answer = ⊥
OnEither P Q (Some (held.Tunnel old)) (Some (held.Tunnel new)) answer = Q old new answer
OnEither P Q (Some (held.Tunnel old)) other answer = ⊥
OnEither P Q old new answer = (answer ≡ Err Absent) × (new ≡ old)

-- the connection makes this step, and nothing else changes
abbrev pub Becomes : (GatewayConnection → GatewayConnection → Type 0) → HeldGate → HeldGate → Type 0
Becomes P old new = P old.connection new.connection × (new.scheme ≡ old.scheme)

-- a call that makes this step, and never fails
abbrev pub Does : (GatewayConnection → GatewayConnection → Type 0) → HeldGate → HeldGate → Result (Unit {0}) Failure
    → Type 0
Does P old new (Ok tt) = Becomes P old new
Does P old new (Err failure) = ⊥

-- all of the bytes are received, or none if out of memory
abbrev pub AllOrNone : {X : Type 0} → (List ℕ → X → X → Type 0) → List ℕ → X → X → Result (Unit {0}) Failure → Type 0
AllOrNone P bytes old new (Ok tt) = P bytes old new
AllOrNone P bytes old new (Err failure) = (failure ≡ Memory) × P [] old new

-- What a call does by the number of a side: 0 for the client, 1 for the origin. Of another number the answer is
-- `Refused`, and nothing changes.
pub record OnSide {X V : Type 0} (client origin : X → X → Result V Failure → Type 0) (side : ℕ) (old new : X)
    (answer : Result V Failure) : Type 0 where
  pub of_client : side ≡ 0 → client old new answer
  pub of_origin : side ≡ 1 → origin old new answer
  pub of_none : side ≢ 0 → side ≢ 1 → (answer ≡ Err Refused) × (new ≡ old)
