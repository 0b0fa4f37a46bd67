-- The way of a request through gateways to a resource (RFC 9110, section 7.6).
use Rattle.std.specs.Prelude.{◌≡◌, ℕ, List, [], ◌∷◌, None, bytes_eq, codes, if◌then◌else◌}
use Rattle.headers.specs.{LineMap.LineMap, Lines.Line}
use Rattle.gateway_messages.specs.{FieldLines.fields_of, FieldLines.lines_under, Forwarding.replaced}
use Rattle.gateway_messages.specs.{HopByHop.connection_options, HopByHop.is_hop_by_hop, Requests.IsForwarded}
use Rattle.gateway_messages.specs.{Requests.Request as Received, declared.gateway.Gateway.Gateway}
use Rattle.gateway_messages.specs.{declared.protocol.Protocol.TheVariants.Http11}
use Rattle.gateway_messages.specs.{declared.request.ForwardedRequest.ForwardedRequest}
use Rattle.decide_resource.specs.Requests.{Request}

-- a request as a gateway reads it: its content decides nothing
abbrev pub received : Request → Received
received request =
    record {
      protocol = request.protocol;
      method = request.method;
      authority = request.authority;
      fields = request.fields;
    }

-- The next server gets what was forwarded: in HTTP/1.1, for the host that its fields name, and with the same content.
-- It denies it, or doesn't, as if the client had sent it.
pub record IsPassedOn (request : Request) (sent : ForwardedRequest) (next : Request) : Type 0 where
  pub protocol : next.protocol ≡ Http11
  pub method : request.method ≡ next.method
  pub authority : next.authority ≡ None
  pub content : request.content ≡ next.content
  pub denied : request.denied ≡ next.denied
  pub fields : (name : List ℕ) → next.fields name ≡ lines_under (fields_of sent.fields.items) name

-- a gateway forwards a request, and this is what the next server gets
pub record IsSentOn (gateway : Gateway) (request next : Request) : Type 0 where
  pub sent : ForwardedRequest
  pub forwarded : IsForwarded gateway (received request) sent
  pub passed : IsPassedOn request sent next

-- each gateway of the list forwards the request, the first one that of the client; the last request is what the
-- server behind them gets
abbrev pub Reaches : List Gateway → Request → Request → Type 0
Reaches [] request last = request ≡ last
Reaches (gateway ∷ gateways) request last =
    (next : Request) × IsSentOn gateway request next × Reaches gateways next last

-- the host that a request names: that of its target, or else that of Host (RFC 9110, section 7.1)
abbrev pub named_host : Request → List Line
named_host request = replaced request.authority (request.fields (codes "host"))

-- the field lines of a request that are meant for the server behind a gateway: those of the connection to the gateway
-- are left out, and Host is that of the target
abbrev pub end_to_end_lines : Gateway → Request → LineMap
end_to_end_lines gateway request name =
    if bytes_eq (codes "host") name then named_host request
    else (if is_hop_by_hop gateway.consumes_credentials (connection_options request.fields) name then []
    else request.fields name)

-- the request of a client to a gateway, as it would send it to the server behind it
abbrev pub sent_directly : Gateway → Request → Request
sent_directly gateway request =
    record {
      protocol = Http11;
      method = request.method;
      authority = None;
      content = request.content;
      fields = end_to_end_lines gateway request;
      denied = request.denied;
    }
