-- Calls that move bytes, and what comes next.
use Rattle.std.specs.Prelude.{◌≡◌, ◌⊎◌, ℕ, ◌≤◌, ◌<◌, Bool, true, false, not, List, [], ◌++◌, length, filter, flat_map}
use Rattle.{std.specs.Prelude.{codes, Option, Some, None, Result, Ok, Err}, headers.specs.{Date.IsDated, Lines.Line}}
use Rattle.headers_section.specs.Section.{input_lines}
use Rattle.server_stream.specs.Steps as Stream
use Rattle.gateway_connection.specs.Steps as Origin
use Rattle.gateway_exchange.specs.Steps.{ChangesClient, ChangesOrigin, Dates, FinishesClient, HandsOutOrigin}
use Rattle.gateway_exchange.specs.{Steps.{ReceivesClient, ReceivesOrigin, Says, is_empty, output_of}, Tunnels.Begins}
use Rattle.gateway_exchange.specs.Tunnels as Tunneled
use Rattle.gateway_exchange.specs.declared.{event.GatewayEvent.GatewayEvent, rules.GatewayRules.GatewayRules}
use Rattle.{gateway_exchange.specs.declared.tunnel.Tunnel.Tunnel, c_parts.specs.declared.status.Failure.Failure}
use Rattle.c_parts.specs.declared.status.Failure.TheVariants.{Refused, Memory, Absent}
use Rattle.c_handles.specs.declared.held.{Held.Held, HeldGate.HeldGate}
use Rattle.c_handles.specs.declared.held.Held.TheVariants as held
use Rattle.c_gate.specs.Calls.{AllOrNone, Becomes, Does, OnEither, OnSide}
use Rattle.c_gate.{specs.Numbers.{gate_facts, tunnel_facts}, specs.declared.moving.GateFacts.GateFacts}

-- ---- bytes

abbrev pub GateReceives : ℕ → List ℕ → HeldGate → HeldGate → Result (Unit {0}) Failure → Type 0
GateReceives side bytes = OnSide
    (AllOrNone (λ some. Becomes (λ old new. ReceivesClient old some new)) bytes)
    (AllOrNone (λ some. Becomes (ChangesOrigin (ReceivesOrigin some))) bytes) side

abbrev pub TunnelReceives : ℕ → List ℕ → Tunnel → Tunnel → Result (Unit {0}) Failure → Type 0
TunnelReceives side bytes = OnSide
    (AllOrNone (λ some old new. Tunneled.ReceivesClient old some new) bytes)
    (AllOrNone (λ some old new. Tunneled.ReceivesOrigin old some new) bytes) side

-- bytes of a side are received
abbrev pub Receives : ℕ → List ℕ → (old new : Option Held) → Result (Unit {0}) Failure → Type 0
Receives side bytes = OnEither (GateReceives side bytes) (TunnelReceives side bytes)

abbrev pub GateFinishes : ℕ → HeldGate → HeldGate → Result (Unit {0}) Failure → Type 0
GateFinishes side = OnSide (Does FinishesClient) (Does (ChangesOrigin Origin.Finishes)) side

abbrev pub TunnelFinishes : ℕ → Tunnel → Tunnel → Result (Unit {0}) Failure → Type 0
TunnelFinishes side = OnSide
    (λ old new answer. (answer ≡ Ok tt) × (new ≡ record old { client_ended = true }))
    (λ old new answer. (answer ≡ Ok tt) × (new ≡ record old { origin_ended = true })) side

-- the input of a side ends
abbrev pub Finishes : ℕ → (old new : Option Held) → Result (Unit {0}) Failure → Type 0
Finishes side = OnEither (GateFinishes side) (TunnelFinishes side)

-- So many of the bytes that wait were written. If fewer wait nothing changes.
abbrev pub HandsOut : {X : Type 0} → (X → List ℕ) → (ℕ → X → X → Type 0) → ℕ → X → X → Result (Unit {0}) Failure
    → Type 0
HandsOut waiting P count old new (Ok tt) = (count ≤ length (waiting old)) × P count old new
HandsOut waiting P count old new (Err failure) =
    (failure ≡ Refused) × (length (waiting old) < count) × (new ≡ old)

-- what waits to be written to each side
abbrev pub to_client : HeldGate → List ℕ
to_client gate = gate.connection.client.output.items

abbrev pub to_origin : HeldGate → List ℕ
to_origin gate = output_of gate.connection.origin

abbrev pub ClientHandsOut : ℕ → HeldGate → HeldGate → Result (Unit {0}) Failure → Type 0
ClientHandsOut = HandsOut to_client (λ n. Becomes (ChangesClient (λ old new. Stream.HandsOut old n new)))

abbrev pub OriginHandsOut : ℕ → HeldGate → HeldGate → Result (Unit {0}) Failure → Type 0
OriginHandsOut = HandsOut to_origin (λ n. Becomes (ChangesOrigin (HandsOutOrigin n)))

abbrev pub GateHandsOut : ℕ → ℕ → HeldGate → HeldGate → Result (Unit {0}) Failure → Type 0
GateHandsOut side count = OnSide (ClientHandsOut count) (OriginHandsOut count) side

abbrev pub TunnelClientHandsOut : ℕ → Tunnel → Tunnel → Result (Unit {0}) Failure → Type 0
TunnelClientHandsOut = HandsOut (λ (t : Tunnel). t.to_client.items) (λ n old new. Tunneled.WritesClient old n new)

abbrev pub TunnelOriginHandsOut : ℕ → Tunnel → Tunnel → Result (Unit {0}) Failure → Type 0
TunnelOriginHandsOut = HandsOut (λ (t : Tunnel). t.to_origin.items) (λ n old new. Tunneled.WritesOrigin old n new)

abbrev pub TunnelHandsOut : ℕ → ℕ → Tunnel → Tunnel → Result (Unit {0}) Failure → Type 0
TunnelHandsOut side count = OnSide (TunnelClientHandsOut count) (TunnelOriginHandsOut count) side

-- so many of the bytes that wait for a side were written
abbrev pub Sent : ℕ → ℕ → (old new : Option Held) → Result (Unit {0}) Failure → Type 0
Sent side count = OnEither (GateHandsOut side count) (TunnelHandsOut side count)

-- ---- what comes next

-- The connection knows the time. If memory runs out, or the second lies past the year 9999, nothing changes.
abbrev pub SetsClock : ℕ → HeldGate → HeldGate → Result (Unit {0}) Failure → Type 0
SetsClock now old new (Ok tt) = IsDated now × Becomes (λ before after. Dates before now after) old new
SetsClock now old new (Err failure) =
    (new ≡ old) × ((failure ≡ Memory) ⊎ ((failure ≡ Refused) × ¬ (IsDated now)))

-- The connection took steps, and says what came, what it does then, and what it waits for. If the second lies past the
-- year 9999 nothing changes.
abbrev pub GateTells : GatewayRules → ℕ → HeldGate → HeldGate → Result GateFacts Failure → Type 0
GateTells rules now old new (Ok facts) =
    IsDated now × (event : GatewayEvent) × Becomes (λ before after. Says rules now before event after) old new
    × (facts ≡ gate_facts event new.connection)
GateTells rules now old new (Err failure) = (failure ≡ Refused) × ¬ (IsDated now) × (new ≡ old)

abbrev pub TunnelTells : Tunnel → Tunnel → Result GateFacts Failure → Type 0
TunnelTells old new answer = (answer ≡ Ok (tunnel_facts old)) × (new ≡ old)

-- the same of two handles: `Absent`, and nothing changes, if the one has no rules
abbrev pub TellsNext : ℕ → Option GatewayRules → (old new : Option Held) → Result GateFacts Failure → Type 0
TellsNext now None old new answer = (answer ≡ Err Absent) × (new ≡ old)
TellsNext now (Some rules) old new answer = OnEither (GateTells rules now) TunnelTells old new answer

-- ---- tunnels

-- The handle of a connection becomes that of the tunnel, or is closed if out of memory. Any other stays as it was, and
-- the answer is `Absent`.
abbrev pub OpensTunnel : (old new : Option Held) → Result (Unit {0}) Failure → Type 0
OpensTunnel (Some (held.Gate gate)) (Some (held.Tunnel tunnel)) answer =
    (answer ≡ Ok tt) × Begins gate.connection tunnel
OpensTunnel (Some (held.Gate gate)) (Some other) answer = ⊥
OpensTunnel (Some (held.Gate gate)) None answer = answer ≡ Err Memory
OpensTunnel old new answer = (answer ≡ Err Absent) × (new ≡ old)

abbrev pub is_gate : Held → Bool
is_gate (held.Gate gate) = true
is_gate other = false

-- what a connection goes on as
abbrev pub IsTunnelOf : Held → Result Tunnel Failure → Type 0
IsTunnelOf (held.Gate gate) (Ok tunnel) = Begins gate.connection tunnel
IsTunnelOf (held.Gate gate) (Err failure) = failure ≡ Memory
IsTunnelOf other answer = answer ≡ Err Absent

-- ---- the request that the program asks itself

-- a line, and CRLF
abbrev pub crlf_line : Line → List ℕ
crlf_line line = line ++ codes "\r\n"

-- each line that isn't empty, and CRLF
abbrev pub lines_text : List Line → List ℕ
lines_text lines = flat_map crlf_line (filter (λ line. not (is_empty line)) lines)

-- a request without content
abbrev pub request_text : (method target section : List ℕ) → List ℕ
request_text method target section =
    method ++ codes " " ++ target ++ codes " HTTP/1.1\r\n" ++ lines_text (input_lines section) ++ codes "\r\n"

-- it is received as the client's, if memory suffices
abbrev pub Asks : (method target section : List ℕ) → HeldGate → HeldGate → Result (Unit {0}) Failure → Type 0
Asks method target section old new (Ok tt) =
    Becomes (λ before after. ReceivesClient before (request_text method target section) after) old new
Asks method target section old new (Err failure) =
    (failure ≡ Memory) × ((new ≡ old) ⊎ Becomes (λ before after. ReceivesClient before [] after) old new)
