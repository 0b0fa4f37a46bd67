-- What a gateway does with a request (RFC 9110, section 7.6; RFC 9112, sections 3.2 and 6).
use Rattle.std.specs.Prelude.{◌≡◌, ℕ, ◌+◌, Bool, true, false, List, [], ◌∷◌, Option, Some, None, codes, option_map}
use Rattle.headers.specs.{LineMap.{LineMap, lines_at}, Lines.Line}
use Rattle.gateway_messages.specs.{Expectations.has_known_expectation, FieldLines.{fields_of, lines_under}}
use Rattle.gateway_messages.specs.{Forwarding.{Forwards, Message}, Framing.{RejectsFraming, States}}
use Rattle.gateway_messages.specs.{HopByHop.{HasFairOptions, RejectsOptions}, Hops.{HasHops, HasInvalidHops}}
use Rattle.gateway_messages.specs.{HostTests.is_host, Via.is_loop, declared.framing.Framing.Framing}
use Rattle.gateway_messages.specs.declared.{gateway.Gateway.Gateway, protocol.Protocol.{Protocol, TheVariants.Http10}}
use Rattle.gateway_messages.specs.declared.{protocol.Protocol.TheVariants.Http11, rejection.Rejection.Rejection}
use Rattle.gateway_messages.specs.declared.request.{ForwardedRequest.ForwardedRequest, ReceivedRequest.ReceivedRequest}
use Rattle.gateway_messages.specs.declared.request.RequestOutcome.{RequestOutcome, TheVariants.{Forward, Respond}}
use Rattle.gateway_messages.specs.declared.request.RequestOutcome.TheVariants.{Reject}

-- a request as a gateway receives it; the authority is that of a target in absolute-form
pub record Request : Type 0 where
  pub protocol : Protocol
  pub method : List ℕ
  pub authority : Option Line
  pub fields : LineMap

abbrev pub request_of : ReceivedRequest → Request
request_of head =
    record {
      protocol = head.protocol;
      method = head.method.now;
      authority = option_map (λ value. value.now.bytes) head.authority;
      fields = lines_at head.fields.now;
    }

-- there is one field line of Host, and it is valid, or none in HTTP/1.0 (RFC 9112, section 3.2)
abbrev pub has_host : Protocol → List Line → Bool
has_host Http10 [] = true
has_host Http11 [] = false
has_host protocol (line ∷ []) = is_host line
has_host protocol (line ∷ other ∷ lines) = false

-- a request that isn't rejected, and what its fields state about its content
pub record IsAccepted (gateway : Gateway) (request : Request) (framing : Framing) : Type 0 where
  pub states : States request.protocol request.fields framing
  pub options : HasFairOptions gateway request.fields
  pub host : has_host request.protocol (request.fields (codes "host")) ≡ true
  pub first_time : is_loop gateway.pseudonym (request.fields (codes "via")) ≡ false
  pub expectation : has_known_expectation (request.fields (codes "expect")) ≡ true

-- the number that Max-Forwards has once it is one less
abbrev pub HasHopsLeft : Request → Option ℕ → Type 0
HasHopsLeft request left = HasHops request.method request.fields (option_map (λ hops. hops + 1) left)

-- a request that may be forwarded
pub record IsForwardable (gateway : Gateway) (request : Request) : Type 0 where
  pub framing : Framing
  pub left : Option ℕ
  pub accepted : IsAccepted gateway request framing
  pub hops : HasHopsLeft request left

-- the message that this gateway sends for a request
abbrev pub message_of : Request → Framing → Option ℕ → Message
message_of request framing left =
    record {
      protocol = request.protocol;
      host = request.authority;
      date = None;
      hops = left;
      framing = framing;
    }

-- a request that is forwarded
pub record IsForwarded (gateway : Gateway) (request : Request) (sent : ForwardedRequest) : Type 0 where
  pub accepted : IsAccepted gateway request sent.framing
  pub hops : HasHopsLeft request sent.hops
  pub fields : Forwards gateway (message_of request sent.framing sent.hops) request.fields
      (lines_under (fields_of sent.fields.items))

-- it may be forwarded no more: the gateway is its final recipient (RFC 9110, section 7.6.2)
pub record IsForGateway (gateway : Gateway) (request : Request) (framing : Framing) : Type 0 where
  pub accepted : IsAccepted gateway request framing
  pub hops : HasHops request.method request.fields (Some 0)

-- why a request is rejected
abbrev pub Rejects : Gateway → Request → Rejection → Type 0
Rejects gateway request Rejection.InvalidHost = has_host request.protocol (request.fields (codes "host")) ≡ false
Rejects gateway request Rejection.Loop = is_loop gateway.pseudonym (request.fields (codes "via")) ≡ true
Rejects gateway request Rejection.UnknownExpectation =
    has_known_expectation (request.fields (codes "expect")) ≡ false
Rejects gateway request Rejection.InvalidHops = HasInvalidHops request.method request.fields
Rejects gateway request Rejection.InvalidOption = RejectsOptions gateway request.fields Rejection.InvalidOption
Rejects gateway request Rejection.ProtectedOption = RejectsOptions gateway request.fields Rejection.ProtectedOption
Rejects gateway request rejection = RejectsFraming request.protocol request.fields rejection

abbrev pub IsOutcome : Gateway → Request → RequestOutcome → Type 0
IsOutcome gateway request (Forward sent) = IsForwarded gateway request sent
IsOutcome gateway request (Respond framing) = IsForGateway gateway request framing
IsOutcome gateway request (Reject rejection) = Rejects gateway request rejection
