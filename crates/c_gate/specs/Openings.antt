-- What the handles are opened with.
use Rattle.std.specs.Prelude.{◌≡◌, ◌⊎◌, ℕ, List, Result, Ok, Err}
use Rattle.http_header.specs.FieldValue.{FieldValue, IsFieldValue, plain_value}
use Rattle.{http1.specs.declared.conn.Limits.Limits, gateway_hops.specs.declared.fields.Forwarding.Forwarding}
use Rattle.gateway_hops.specs.declared.{fields.Received.TheVariants.KeptFromTrusted, node.Node.Node}
use Rattle.gateway_connection.specs.Steps as Origin
use Rattle.gateway_exchange.specs.{Steps.IsNew, declared.rules.{Peer.Peer, GatewayRules.GatewayRules}}
use Rattle.c_gateway.specs.{Gateways.IsGatewayOf, Hops.scheme_of, Nodes.IsNodeOf}
use Rattle.c_gateway.specs.declared.gateway.GatewayOptions.{GatewayOptions}
use Rattle.c_parts.specs.declared.status.Failure.{Failure, TheVariants.{Refused, Memory, Absent, TooLarge}}
use Rattle.c_handles.specs.declared.held.{Held.Held, HeldGate.HeldGate}
use Rattle.c_handles.specs.declared.held.Held.TheVariants as held
use Rattle.c_gate.specs.declared.opening.{GatePeer.GatePeer, GateRules.GateRules}

-- ---- rules

-- the field value of a text; `Refused` only if it is none
abbrev pub IsValueOf : List ℕ → Result FieldValue Failure → Type 0
IsValueOf text (Ok value) = IsFieldValue text × (value ≡ plain_value text)
IsValueOf text (Err Refused) = ¬ (IsFieldValue text)
IsValueOf text (Err Memory) = IsFieldValue text
IsValueOf text (Err Absent) = ⊥
IsValueOf text (Err TooLarge) = ⊥

-- what was received of earlier gateways is kept exactly if the client is trusted
abbrev pub forwarding_of : GateRules → Forwarding
forwarding_of given = record {
  received = KeptFromTrusted;
  writes_forwarded = given.writes_forwarded;
  writes_x_forwarded = given.writes_x_forwarded;
}

-- the rules of these settings
abbrev pub IsRulesOf : GatewayOptions → GateRules → GatewayRules → Type 0
IsRulesOf gateway given rules =
    IsGatewayOf gateway (Ok rules.gateway) × IsValueOf given.authority.now (Ok rules.authority)
    × (rules.forwarding ≡ forwarding_of given) × (rules.answers_expect ≡ given.answers_expect)
    × (rules.passes_websocket ≡ given.passes_websocket) × (rules.passes_connect ≡ given.passes_connect)

-- or why there are none; `Memory` also for the handle
abbrev pub IsRulesHeld : GatewayOptions → GateRules → Result Held Failure → Type 0
IsRulesHeld gateway given (Ok (held.GateRules rules)) = IsRulesOf gateway given rules
IsRulesHeld gateway given (Ok other) = ⊥
IsRulesHeld gateway given (Err failure) =
    IsGatewayOf gateway (Err failure) ⊎ (IsValueOf given.authority.now (Err failure) ⊎ (failure ≡ Memory))

-- ---- connections

-- heads have at most so many bytes, and chunk extensions and trailer sections 16 KiB
abbrev pub limits_of : ℕ → Limits
limits_of most = record { max_head_len = most; max_extensions_len = 16384; max_trailers_len = 16384 }

abbrev pub peer_of : GatePeer → Node → Peer
peer_of given node = record { node = node; scheme = scheme_of given.is_secure; is_trusted = given.is_trusted }

-- a connection with that client, which has received nothing
abbrev pub IsGateOf : GatePeer → ℕ → HeldGate → Type 0
IsGateOf given most gate =
    (node : Node) × IsNodeOf given.node.now given.port (Ok node)
    × IsNew (limits_of most) (peer_of given node) gate.connection × (gate.scheme ≡ scheme_of given.is_secure)

-- or why there is none
abbrev pub IsGateHeld : GatePeer → ℕ → Result Held Failure → Type 0
IsGateHeld given most (Ok (held.Gate gate)) = IsGateOf given most gate
IsGateHeld given most (Ok other) = ⊥
IsGateHeld given most (Err failure) = IsNodeOf given.node.now given.port (Err failure) ⊎ (failure ≡ Memory)

-- a connection to an origin over which nothing went, or no memory is left
abbrev pub IsOriginHeld : ℕ → Result Held Failure → Type 0
IsOriginHeld most (Ok (held.GateOrigin origin)) = Origin.IsNew (limits_of most) origin
IsOriginHeld most (Ok other) = ⊥
IsOriginHeld most (Err failure) = failure ≡ Memory
