-- What a gateway sends of a request on its next connection.
use Rattle.std.specs.Prelude.{◌≡◌, Bool, true, false, List, ◌++◌}
use Rattle.{headers.specs.LineMap.{Field, LineMap}, gateway_hops.specs.Arrivals.{ArrivalParts, arrival_parts}}
use Rattle.gateway_hops.specs.{Fields.forwarding_fields, declared.arrival.Arrival.Arrival}
use Rattle.gateway_hops.specs.declared.{fields.Forwarding.Forwarding, connection.NextConnection.NextConnection}
use Rattle.gateway_hops.specs.declared.request.HopOutcome.{HopOutcome, TheVariants.{Send, RequireLength, Respond}}
use Rattle.gateway_hops.specs.declared.request.{HopOutcome.TheVariants.Reject, SentRequest.SentRequest}
use Rattle.gateway_hops.specs.{Connections.{ConnectionParts, connection_fields, connection_parts}, Replaced.replaced_by}
use Rattle.gateway_messages.specs.{Expectations.{IsExpectation, expect_fields}, FieldLines.fields_of}
use Rattle.gateway_messages.specs.Requests.{IsForGateway, IsForwarded, Rejects, Request}
use Rattle.gateway_messages.specs.declared.{expectation.Expectation.Expectation, framing.Framing.Framing}
use Rattle.gateway_messages.specs.declared.{framing.Framing.TheVariants.Chunked, gateway.Gateway.Gateway}
use Rattle.gateway_messages.specs.declared.protocol.Protocol.{Protocol, TheVariants.Http10}
use Rattle.gateway_messages.specs.declared.request.ForwardedRequest.{ForwardedRequest}

-- what a gateway knows of the two connections of a request, and what it says on the next one
pub record Hop : Type 0 where
  -- the version of HTTP that the next server is known to speak
  pub server : Protocol
  pub connection : ConnectionParts
  pub forwarding : Forwarding
  pub arrival : ArrivalParts

abbrev pub hop_of : Protocol → NextConnection → Forwarding → Arrival → Hop
hop_of server connection forwarding arrival =
    record {
      server = server;
      connection = connection_parts connection;
      forwarding = forwarding;
      arrival = arrival_parts arrival;
    }

-- the fields that the gateway writes for the next server: those of the connection, Expect if it isn't forwarded, and
-- those that tell how the request arrived
abbrev pub hop_fields : ConnectionParts → Forwarding → ArrivalParts → Expectation → LineMap → List Field
hop_fields connection forwarding arrival expectation received =
    connection_fields connection
    ++ (expect_fields expectation ++ forwarding_fields forwarding arrival received)

-- the content is sent in chunks, which a server of HTTP/1.0 doesn't know (RFC 9112, section 6.1)
abbrev pub lacks_length : Framing → Protocol → Bool
lacks_length Chunked Http10 = true
lacks_length framing server = false

-- The request is sent: what is forwarded of it, with the fields that the gateway writes for the next server in place of
-- those of the same names.
pub record IsSent (gateway : Gateway) (hop : Hop) (request : Request) (sent : SentRequest) : Type 0 where
  pub forwarded : ForwardedRequest
  pub forwards : IsForwarded gateway request forwarded
  pub expectation : IsExpectation request.protocol hop.server sent.framing request.fields sent.expectation
  pub framing : sent.framing ≡ forwarded.framing
  pub hops : sent.hops ≡ forwarded.hops
  pub has_length : lacks_length sent.framing hop.server ≡ false
  pub fields : fields_of sent.fields.items
      ≡ replaced_by (hop_fields hop.connection hop.forwarding hop.arrival sent.expectation request.fields)
      (fields_of forwarded.fields.items)

-- the request may be forwarded, but not to a server of HTTP/1.0
pub record LacksLength (gateway : Gateway) (hop : Hop) (request : Request) : Type 0 where
  pub forwarded : ForwardedRequest
  pub forwards : IsForwarded gateway request forwarded
  pub lacks : lacks_length forwarded.framing hop.server ≡ true

abbrev pub IsHopOutcome : Gateway → Hop → Request → HopOutcome → Type 0
IsHopOutcome gateway hop request (Send sent) = IsSent gateway hop request sent
IsHopOutcome gateway hop request RequireLength = LacksLength gateway hop request
IsHopOutcome gateway hop request (Respond framing) = IsForGateway gateway request framing
IsHopOutcome gateway hop request (Reject rejection) = Rejects gateway request rejection
