-- What a gateway does with a request (RFC 9110, section 7; RFC 9112, section 3.2).
use Rattle.std.specs.Prelude.{◌≡◌, ◌⊎◌, ℕ, ◌==◌, Bool, true, false, List, [], Option, Some, None, bytes_eq, codes}
use Rattle.std.specs.{Prelude.if◌then◌else◌, Bool.MatchBool}
use Rattle.http.specs.declared.version.{Version.Version, TheConstants.Version.{HTTP_10, HTTP_11}}
use Rattle.{headers.specs.{LineMap.lines_at, Lines.Line}, decide_handshake.specs.Server.{Answers, IsSwitch}}
use Rattle.decide_handshake.specs.declared.server.HandshakeAnswer.{HandshakeAnswer}
use Rattle.gateway_hops.specs.{Arrivals.ArrivalParts, Connections.ConnectionParts, Replaced.replaced_by, Sent.Hop}
use Rattle.gateway_hops.specs.{Sent.{IsSent, LacksLength}, declared.request.SentRequest.SentRequest}
use Rattle.gateway_messages.specs.{Expectations.expect_fields, FieldLines.fields_of}
use Rattle.gateway_messages.specs.Requests as Forwarding
use Rattle.gateway_messages.specs.{Requests.{IsForGateway, Rejects}, declared.expectation.Expectation.Expectation}
use Rattle.gateway_messages.specs.declared.expectation.Expectation.TheVariants.{Answered, Forwarded}
use Rattle.gateway_messages.specs.declared.{field_line.FieldLine.FieldLine, framing.Framing.Framing}
use Rattle.gateway_messages.specs.declared.protocol.Protocol.TheVariants.{Http11}
use Rattle.gateway_exchange.specs.{Authorities.{IsAuthority, given_host}, Messages.protocol_of, Targets.Parts}
use Rattle.gateway_exchange.specs.Targets.{origin_form, target_of}
use Rattle.server_stream.specs.declared.event.StreamRequest.{StreamRequest}
use Rattle.gateway_exchange.specs.declared.decision.{Outgoing.Outgoing, RequestDecision.RequestDecision}
use Rattle.gateway_exchange.specs.declared.{decision.RequestDecision.TheVariants.{Answer, Send}, own.Own.Own}
use Rattle.gateway_exchange.specs.declared.rules.{Peer.Peer, GatewayRules.GatewayRules}
use Rattle.gateway_exchange.specs.declared.own.Own.TheVariants as Because

-- ---- the next connection

abbrev pub version_of : ℕ → Version
version_of minor = if minor == 0 then HTTP_10 else HTTP_11

abbrev pub IsHandshakeAnswer : StreamRequest → HandshakeAnswer → Type 0
IsHandshakeAnswer request answer =
    Answers request.method (version_of request.minor) (lines_at request.fields) None [] answer

-- whether a request is an opening handshake that goes on as one
abbrev pub OpensWebsocket : GatewayRules → StreamRequest → Bool → Type 0
OpensWebsocket rules request true =
    (rules.passes_websocket ≡ true) × (answer : HandshakeAnswer) × IsHandshakeAnswer request answer × IsSwitch answer
OpensWebsocket rules request false =
    (rules.passes_websocket ≡ false)
    ⊎ ((answer : HandshakeAnswer) × IsHandshakeAnswer request answer × ¬ (IsSwitch answer))

abbrev pub peer_arrival : Peer → ArrivalParts
peer_arrival peer =
    record { client = peer.node; interface = None; host = None; scheme = peer.scheme; is_trusted = peer.is_trusted }

-- the connection to the origin server stays open, and offers this protocol
abbrev pub offering : Option Line → ConnectionParts
offering upgrade = record { closes = false; accepts_trailers = false; upgrade = upgrade }

abbrev pub websocket_if : Bool → Option Line
websocket_if opens = if opens then Some (codes "websocket") else None

-- the next connection: the origin server speaks HTTP/1.1
abbrev pub next_hop : GatewayRules → Peer → Option Line → Hop
next_hop rules peer upgrade = record {
  server = Http11;
  connection = offering upgrade;
  forwarding = rules.forwarding;
  arrival = peer_arrival peer;
}

-- ---- what is sent

-- the request as `gateway_messages` sees it, by the authority of its target
abbrev pub asked : GatewayRules → StreamRequest → Option Line → Forwarding.Request
asked rules request authority = record {
  protocol = protocol_of request.minor;
  method = request.method;
  authority = given_host rules.authority (lines_at request.fields) authority;
  fields = lines_at request.fields;
}

-- the gateway sends the 100 (Continue) that would be the origin's
abbrev pub takes_over : Bool → Expectation → Bool
takes_over true Forwarded = true
takes_over answers expectation = false

-- what is sent: what `gateway_hops` sends, without Expect if the gateway answers that
pub record IsOutgoing (rules : GatewayRules) (sent : SentRequest) (to : List ℕ) (outgoing : Outgoing) : Type 0 where
  pub target : outgoing.target ≡ to
  pub framing : outgoing.framing ≡ sent.framing
  pub expectation : outgoing.expectation
      ≡ (if takes_over rules.answers_expect sent.expectation then Answered else sent.expectation)
  pub fields : fields_of outgoing.fields.items
      ≡ (if takes_over rules.answers_expect sent.expectation
      then replaced_by (expect_fields Answered) (fields_of sent.fields.items) else fields_of sent.fields.items)

-- the request may be sent so
pub record IsSentOn (rules : GatewayRules) (peer : Peer) (request : StreamRequest) (authority : Option Line)
    (to : List ℕ)
    (outgoing : Outgoing) : Type 0 where
  pub opens : Bool
  pub handshake : OpensWebsocket rules request opens
  pub sent : SentRequest
  pub sends : IsSent rules.gateway (next_hop rules peer (websocket_if opens)) (asked rules request authority) sent
  pub outgoing_is : IsOutgoing rules sent to outgoing

-- the field line of Host, and the value of one
abbrev pub is_host_line : FieldLine → Bool
is_host_line field = bytes_eq field.name (codes "host")

abbrev pub value_or_none : Option FieldLine → List ℕ
value_or_none (Some field) = field.value.bytes
value_or_none None = []

-- ---- decisions

-- why the gateway answers a request with a valid target itself
abbrev pub IsAnswered : GatewayRules → Peer → StreamRequest → Option Line → Own → Type 0
IsAnswered rules peer request authority (Because.Rejected why) =
    Rejects rules.gateway (asked rules request authority) why
IsAnswered rules peer request authority Because.FinalRecipient =
    (framing : Framing) × IsForGateway rules.gateway (asked rules request authority) framing
IsAnswered rules peer request authority Because.LengthRequired = (opens : Bool)
    × LacksLength rules.gateway (next_hop rules peer (websocket_if opens)) (asked rules request authority)
IsAnswered rules peer request authority own = ⊥

-- what is done with a request of this authority, whose target is sent so
abbrev pub IsDecisionFor : GatewayRules → Peer → StreamRequest → Option Line → List ℕ → RequestDecision → Type 0
IsDecisionFor rules peer request authority target (Answer own) = IsAnswered rules peer request authority own
IsDecisionFor rules peer request authority target (Send outgoing) =
    IsSentOn rules peer request authority target outgoing

-- an authority has to be a host
abbrev pub IsDecisionAt : GatewayRules → Peer → StreamRequest → Option (List ℕ) → List ℕ → RequestDecision → Type 0
IsDecisionAt rules peer request None target decision = IsDecisionFor rules peer request None target decision
IsDecisionAt rules peer request (Some authority) target decision =
    (IsAuthority authority × IsDecisionFor rules peer request (Some authority) target decision)
    ⊎ (¬ (IsAuthority authority) × (decision ≡ Answer Because.InvalidTarget))

-- the parts of the target decide
abbrev pub IsDecisionOf : GatewayRules → Peer → StreamRequest → Bool → Option Parts → RequestDecision → Type 0
IsDecisionOf rules peer request is_options None decision = decision ≡ Answer Because.InvalidTarget
IsDecisionOf rules peer request is_options (Some parts) decision =
    IsDecisionAt rules peer request parts.authority (origin_form is_options parts.path) decision

-- the target of CONNECT is the authority, if the gateway implements it (RFC 9112, section 3.2.3)
abbrev pub IsConnectDecision : Bool → GatewayRules → Peer → StreamRequest → RequestDecision → Type 0
IsConnectDecision true rules peer request decision =
    IsDecisionAt rules peer request (Some request.target) request.target decision
IsConnectDecision false rules peer request decision = decision ≡ Answer Because.Connect

abbrev pub IsDecision : GatewayRules → Peer → StreamRequest → RequestDecision → Type 0
IsDecision rules peer request decision =
    MatchBool (bytes_eq request.method (codes "CONNECT"))
    (IsConnectDecision rules.passes_connect rules peer request decision)
    (IsDecisionOf rules peer request (bytes_eq request.method (codes "OPTIONS"))
    (target_of (bytes_eq request.method (codes "OPTIONS")) request.target) decision)
