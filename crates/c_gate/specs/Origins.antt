-- How a request goes to an origin.
use Rattle.std.specs.Prelude.{◌≡◌, ◌≢◌, ◌⊎◌, ℕ, Bool, true, false, List, codes, Option, Some, None, Result, Ok, Err}
use Rattle.{http_header.specs.{FieldValue.FieldValue, HeaderMap.{Entries, get}}, headers_section.specs.Section.Holds}
use Rattle.gateway_connection.specs.declared.origin.OriginConnection.{OriginConnection}
use Rattle.gateway_exchange.specs.Steps.{Conditions, Sends, TakesOrigin}
use Rattle.gateway_exchange.specs.declared.connection.{GatewayConnection.GatewayConnection, Stage.TheVariants.Asking}
use Rattle.c_parts.specs.{SectionMap.IsMapOf, declared.status.Failure.{Failure, TheVariants.{Refused, Memory, Absent}}}
use Rattle.c_handles.specs.declared.held.{Held.Held, HeldGate.HeldGate}
use Rattle.c_handles.specs.declared.held.Held.TheVariants as held
use Rattle.c_gate.specs.Calls.{Becomes}

-- the request that waits has the conditions of these fields in place of its own
abbrev pub ConditionsOf : Entries FieldValue → GatewayConnection → GatewayConnection → Type 0
ConditionsOf fields = Conditions (get fields (codes "if-none-match")) (get fields (codes "if-modified-since"))

-- Those of a section's fields. If a line of the section is no field, or if out of memory, nothing changes.
abbrev pub SetsConditions : List ℕ → HeldGate → HeldGate → Result (Unit {0}) Failure → Type 0
SetsConditions section old new (Ok tt) =
    (fields : Entries FieldValue) × Holds section fields × Becomes (ConditionsOf fields) old new
SetsConditions section old new (Err failure) = (IsMapOf section (Err failure) ⊎ (failure ≡ Memory)) × (new ≡ old)

-- the request that waits is sent over the connection, and the response is watched; if none waits nothing changes
abbrev pub ForwardsOver : OriginConnection → GatewayConnection → GatewayConnection → Type 0
ForwardsOver origin old new = (old.stage ≢ Asking → new ≡ old) × (old.stage ≡ Asking → Sends old origin true new)

-- The handle of a connection to an origin is closed, and the open handle of the gateway's connection makes this step
-- with it, also if no request waits: then it is dropped. Of other handles the answer is `Absent`, and both stay as they
-- were.
abbrev pub Forwards : (old new before after : Option Held) → Result (Unit {0}) Failure → Type 0
Forwards (Some (held.Gate old)) (Some (held.Gate new)) (Some (held.GateOrigin origin)) None answer =
    (answer ≡ Ok tt) × Becomes (ForwardsOver origin) old new
Forwards (Some (held.Gate old)) new (Some (held.GateOrigin origin)) after answer = ⊥
Forwards old new before after answer = (answer ≡ Err Absent) × (new ≡ old) × (after ≡ before)

-- the one is a gateway's connection, and the other one to an origin
abbrev pub fits : Held → Held → Bool
fits (held.Gate gate) (held.GateOrigin origin) = true
fits gate origin = false

-- the same of what two handles have
abbrev pub ForwardsIn : Held → Held → Held → Result (Unit {0}) Failure → Type 0
ForwardsIn (held.Gate old) (held.Gate new) (held.GateOrigin origin) answer =
    (answer ≡ Ok tt) × Becomes (ForwardsOver origin) old new
ForwardsIn (held.Gate old) new (held.GateOrigin origin) answer = ⊥
ForwardsIn old new origin answer = (answer ≡ Err Absent) × (new ≡ old)

-- a closed handle is opened with the connection that was taken, if one was
abbrev pub IsOpenedWith : Option OriginConnection → Option Held → Result (Unit {0}) Failure → Type 0
IsOpenedWith None None answer = answer ≡ Err Absent
IsOpenedWith (Some origin) (Some (held.GateOrigin kept)) answer = (answer ≡ Ok tt) × (kept ≡ origin)
IsOpenedWith (Some origin) None answer = answer ≡ Err Memory
IsOpenedWith taken new answer = ⊥

-- The origin's connection is taken, and the closed handle is opened with it. `Absent` if none is given; if out of
-- memory it is lost, and the handle stays closed. An open handle stays open, `Refused` is the answer, and nothing
-- changes.
abbrev pub TakesOver : (old new before after : Option Held) → Result (Unit {0}) Failure → Type 0
TakesOver old new (Some had) after answer = (answer ≡ Err Refused) × (new ≡ old) × (after ≡ Some had)
TakesOver (Some (held.Gate old)) (Some (held.Gate new)) None after answer =
    (taken : Option OriginConnection) × Becomes (λ m made. TakesOrigin m taken made) old new
    × IsOpenedWith taken after answer
TakesOver (Some (held.Gate old)) other None after answer = ⊥
TakesOver old new None after answer = (answer ≡ Err Absent) × (new ≡ old) × (after ≡ None)

-- what is taken of a connection
abbrev pub IsTaken : HeldGate → HeldGate → Result OriginConnection Failure → Type 0
IsTaken old new (Ok origin) = Becomes (λ m made. TakesOrigin m (Some origin) made) old new
IsTaken old new (Err failure) = (failure ≡ Absent) × Becomes (λ m made. TakesOrigin m None made) old new

-- the connection ends after the next response
abbrev pub LastAfterNext : GatewayConnection → GatewayConnection → Type 0
LastAfterNext old new = new ≡ record old { is_last = true }
