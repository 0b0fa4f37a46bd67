-- Messages on their way from one connection to the other.
use Rattle.std.specs.Prelude.{◌≡◌, ◌≢◌, ◌⊎◌, ⊤, ℕ, Bool, List, [], ◌∷◌, ◌++◌, Option, Some, codes}
use Rattle.std.specs.{Prelude.{◌||◌, bytes_eq, not, option_map, option_to_list}, List.{list_all, list_any}}
use Rattle.http_header.specs.FieldValue.{FieldValue}
use Rattle.{http_header.specs.HeaderMap.Entries, headers.specs.{LineMap.{Field, LineMap, lines_at}}}
use Rattle.http1.specs.{Conn.finish_refusal, Fields.Header}
use Rattle.http1.specs.declared.error.WriteError.{WriteError}
use Rattle.http1.specs.declared.error.WriteError.TheVariants as Write
use Rattle.http1.specs.Server.{informational_refusal, response_refusal, upgrade_refusal}
use Rattle.decide_handshake.specs.{Client.IsOpened}
use Rattle.gateway_messages.specs.{FieldLines.{fields_of, lines_under}, Forwarding.own_names}
use Rattle.gateway_messages.specs.{HopByHop.hop_by_hop_fields, Trailers.ForwardsTrailers}
use Rattle.gateway_messages.specs.Responses as Answers
use Rattle.gateway_messages.specs.Responses.{IsDiscarded, IsForwardedResponse, RejectsResponse}
use Rattle.gateway_messages.specs.declared.{framing.Framing.Framing}
use Rattle.gateway_messages.specs.declared.{gateway.Gateway.Gateway, response.ForwardedResponse.ForwardedResponse}
use Rattle.gateway_hops.{specs.Connections.connection_fields, specs.Replaced.replaced_by}
use Rattle.gateway_connection.specs.declared.{event.OriginResponse.OriginResponse}
use Rattle.gateway_connection.specs.declared.{origin.OriginConnection.OriginConnection}
use Rattle.gateway_connection.specs.Steps as Origin
use Rattle.server_stream.specs.Steps as Stream
use Rattle.server_stream.specs.declared.connection.StreamConnection.{StreamConnection}
use Rattle.gateway_exchange.specs.Messages.{protocol_of, request_size, response_size}
use Rattle.gateway_exchange.specs.{Decisions.offering, Own.closing, declared.decision.AskedRequest.AskedRequest}
use Rattle.gateway_exchange.specs.declared.{own.Own.Own, pass.Heard.Heard}
use Rattle.gateway_exchange.specs.declared.own.Own.TheVariants as Because

-- ---- requests

-- the head of the request is put to the origin, with these fields
abbrev pub PutsRequest : AskedRequest → List Header → OriginConnection → OriginConnection → Type 0
PutsRequest a fields old new =
    Origin.Begins old a.head.method a.outgoing.target fields (request_size a.outgoing.framing) new

-- nothing is put: memory ran out, or the connection or `http1` says why
abbrev pub RefusesRequest : AskedRequest → List Header → OriginConnection → WriteError → OriginConnection → Type 0
RefusesRequest a fields old error new =
    ((new ≡ old) × (error ≡ Write.OutOfMemory))
    ⊎ Origin.RefusesRequest old a.head.method a.outgoing.target fields (request_size a.outgoing.framing) error new

-- the trailer fields that are forwarded of a message with these fields, as lists
abbrev pub IsTrailers : Gateway → Framing → LineMap → Entries FieldValue → List Header → Type 0
IsTrailers gateway framing fields received sent =
    ForwardsTrailers gateway framing fields (lines_at received) (lines_under sent)

-- the end of the request is put to the origin
abbrev pub EndsRequest : Gateway → AskedRequest → Entries FieldValue → OriginConnection → OriginConnection → Type 0
EndsRequest gateway a trailers old new = (sent : List Header)
    × IsTrailers gateway a.outgoing.framing (lines_at a.head.fields) trailers sent × Origin.Ends old sent new

-- nothing is put: memory ran out, or the connection or `http1` says why
abbrev pub RefusesRequestEnd : Gateway → AskedRequest → Entries FieldValue → OriginConnection → WriteError
    → OriginConnection → Type 0
RefusesRequestEnd gateway a trailers old error new =
    ((new ≡ old) × (error ≡ Write.OutOfMemory))
    ⊎ ((sent : List Header) × IsTrailers gateway a.outgoing.framing (lines_at a.head.fields) trailers sent
    × Origin.RefusesWrite (finish_refusal old.client.writing sent) old error new)

-- ---- responses

-- the response as `gateway_messages` sees it, as one of this status
abbrev pub answered : AskedRequest → ℕ → OriginResponse → Answers.Response
answered a status response = record {
  protocol = protocol_of response.minor;
  status = status;
  fields = lines_at response.fields;
  method = a.head.method;
  client = protocol_of a.head.minor;
}

-- an interim response is put to the client
abbrev pub PutsInterim : OriginResponse → ForwardedResponse → StreamConnection → StreamConnection → Type 0
PutsInterim response sent old new = Stream.Informs old response.status response.reason (fields_of sent.fields.items) new

abbrev pub RefusesInterim : OriginResponse → ForwardedResponse → StreamConnection → WriteError → StreamConnection
    → Type 0
RefusesInterim response sent old error new =
    ((new ≡ old) × (error ≡ Write.OutOfMemory))
    ⊎ Stream.RefusesWrite (informational_refusal old.server response.status response.reason
    (fields_of sent.fields.items)) old error new

-- A caller may add a field of this name to a response: the gateway writes none of that name itself, and it neither
-- frames the message nor is for one connection (RFC 9110, sections 7.6.1 and 8.6).
abbrev pub is_addable : List ℕ → Bool
is_addable name = not (list_any (bytes_eq name) own_names || list_any (bytes_eq name) hop_by_hop_fields)

abbrev pub are_addable : List Header → Bool
are_addable lines = list_all (λ line. is_addable line.0) lines

-- the fields that are forwarded of it, and then those that the caller added
abbrev pub head_lines : Heard → List Header
head_lines h = fields_of h.sent.fields.items ++ fields_of h.added.items

-- the head of the final response is put to the client; that of the last says so
abbrev pub PutsResponse : Bool → Heard → StreamConnection → StreamConnection → Type 0
PutsResponse is_last h old new =
    Stream.Responds old h.response.status h.response.reason (closing is_last (head_lines h))
    (response_size h.sent.content) new

abbrev pub RefusesResponse : Bool → Heard → StreamConnection → WriteError → StreamConnection → Type 0
RefusesResponse is_last h old error new =
    ((new ≡ old) × (error ≡ Write.OutOfMemory))
    ⊎ Stream.RefusesWrite (response_refusal old.server h.response.status h.response.reason
    (response_size h.sent.content) (closing is_last (head_lines h))) old error new

-- the end of the response is put to the client
abbrev pub EndsResponse : Gateway → Heard → Entries FieldValue → StreamConnection → StreamConnection → Type 0
EndsResponse gateway h trailers old new = (sent : List Header)
    × IsTrailers gateway h.sent.framing (lines_at h.response.fields) trailers sent × Stream.Ends old sent new

abbrev pub RefusesResponseEnd : Gateway → Heard → Entries FieldValue → StreamConnection → WriteError
    → StreamConnection → Type 0
RefusesResponseEnd gateway h trailers old error new =
    ((new ≡ old) × (error ≡ Write.OutOfMemory))
    ⊎ ((sent : List Header) × IsTrailers gateway h.sent.framing (lines_at h.response.fields) trailers sent
    × Stream.RefusesWrite (finish_refusal old.server.writing sent) old error new)

-- ---- the end of HTTP

-- the fields of a 101 that is passed on: what is forwarded of a response without content, and those of the new protocol
-- (RFC 9110, section 7.8)
abbrev pub switching_fields : List Header → List Header
switching_fields sent = replaced_by (connection_fields (offering (Some (codes "websocket")))) sent

-- the fields of a response that ends HTTP, by its status: 101, if it opens a WebSocket, or 2xx to CONNECT
abbrev pub IsSwitched : Gateway → ℕ → AskedRequest → OriginResponse → List Header → Type 0
IsSwitched gateway date a response fields =
    ((response.status ≢ 101) × (sent : ForwardedResponse)
    × IsForwardedResponse gateway date (answered a response.status response) sent
    × (fields ≡ fields_of sent.fields.items))
    ⊎ (IsOpened (lines_at a.head.fields) response.status (lines_at response.fields)
    × (sent : ForwardedResponse) × IsForwardedResponse gateway date (answered a 204 response) sent
    × (fields ≡ switching_fields (fields_of sent.fields.items)))

-- why it isn't passed on
abbrev pub IsUnswitched : Gateway → AskedRequest → OriginResponse → Own → Type 0
IsUnswitched gateway a response Because.OutOfMemory = ⊤
IsUnswitched gateway a response (Because.Response why) =
    ((response.status ≢ 101) × RejectsResponse gateway (answered a response.status response) why)
    ⊎ ((¬ (IsOpened (lines_at a.head.fields) response.status (lines_at response.fields)))
    ⊎ RejectsResponse gateway (answered a 204 response) why)
IsUnswitched gateway a response own = ⊥

abbrev pub PutsSwitch : OriginResponse → List Header → StreamConnection → StreamConnection → Type 0
PutsSwitch response fields old new = Stream.Switches old response.status response.reason fields new

abbrev pub RefusesSwitch : OriginResponse → List Header → StreamConnection → WriteError → StreamConnection → Type 0
RefusesSwitch response fields old error new =
    ((new ≡ old) × (error ≡ Write.OutOfMemory))
    ⊎ Stream.RefusesWrite (upgrade_refusal old.server response.status response.reason fields) old error new

-- ---- conditions

-- the conditions with which a cache validates, in place of the client's (RFC 9111, section 4.3.1)
abbrev pub condition_fields : Option FieldValue → Option FieldValue → List Field
condition_fields etags since =
    (codes "if-none-match", option_to_list (option_map (λ value. value.bytes) etags))
    ∷ (codes "if-modified-since", option_to_list (option_map (λ value. value.bytes) since)) ∷ []

abbrev pub with_conditions : Option FieldValue → Option FieldValue → List Header → List Header
with_conditions etags since fields = replaced_by (condition_fields etags since) fields
