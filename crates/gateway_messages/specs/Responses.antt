-- What a gateway does with a response (RFC 9110, sections 6.6.1, 7.6 and 15.2; RFC 9112, section 6.3).
use Rattle.std.specs.Prelude.{◌≡◌, ℕ, ◌==◌, Bool, true, false, ◌||◌, ◌&&◌, not, nat_le, nat_lt, List, [], ◌∷◌, Option}
use Rattle.std.specs.Prelude.{Some, None, bytes_eq, codes, if◌then◌else◌}
use Rattle.{headers.specs.{LineMap.{LineMap, lines_at}, Lines.Line}, gateway_messages.specs.FieldLines.fields_of}
use Rattle.gateway_messages.specs.{FieldLines.lines_under, Forwarding.{Forwards, Message}, Framing.RejectsFraming}
use Rattle.gateway_messages.specs.{Framing.States, HopByHop.{HasFairOptions, RejectsOptions}}
use Rattle.gateway_messages.specs.declared.framing.Framing.{Framing, TheVariants.{Unstated, Length, Chunked}}
use Rattle.gateway_messages.specs.declared.{gateway.Gateway.Gateway, protocol.Protocol.{Protocol, TheVariants.Http10}}
use Rattle.gateway_messages.specs.declared.{protocol.Protocol.TheVariants.Http11, rejection.Rejection.Rejection}
use Rattle.gateway_messages.specs.declared.response.{ContentFraming.ContentFraming, ForwardedResponse.ForwardedResponse}
use Rattle.gateway_messages.specs.declared.response.{ResponseHead.ResponseHead, ResponseOutcome.ResponseOutcome}
use Rattle.gateway_messages.specs.declared.response.ResponseOutcome.TheVariants.{Forward, Discard, Reject}

-- a response as a gateway receives it; the method and the version are those of the client's request
pub record Response : Type 0 where
  pub protocol : Protocol
  pub status : ℕ
  pub fields : LineMap
  pub method : List ℕ
  pub client : Protocol

abbrev pub response_of : ResponseHead → Response
response_of head =
    record {
      protocol = head.protocol;
      status = head.status;
      fields = lines_at head.fields.now;
      method = head.method.now;
      client = head.client;
    }

-- ---- content

-- 1xx
abbrev pub is_interim : ℕ → Bool
is_interim status = nat_le 100 status && nat_lt status 200

-- a 2xx to CONNECT: the connection is a tunnel from here on
abbrev pub is_tunnel : List ℕ → ℕ → Bool
is_tunnel method status = bytes_eq method (codes "CONNECT") && (nat_le 200 status && nat_lt status 300)

-- a response to HEAD, a 1xx, a 204 and a 304 have no content, whatever the fields state
abbrev pub has_no_content : List ℕ → ℕ → Bool
has_no_content method status =
    bytes_eq method (codes "HEAD") || (is_interim status || (status == 204 || status == 304))

-- a server states no framing in these; if there is one nevertheless, it is ignored, and isn't forwarded
abbrev pub states_nothing : List ℕ → ℕ → Bool
states_nothing method status = is_tunnel method status || (is_interim status || status == 204)

-- how the content is delimited by the fields
abbrev pub content_stated : Framing → ContentFraming
content_stated Unstated = ContentFraming.UntilClose
content_stated (Length len) = ContentFraming.Length len
content_stated Chunked = ContentFraming.Chunked

-- how the content is delimited by the method of the request, the status and the fields
abbrev pub content_of : List ℕ → ℕ → Framing → ContentFraming
content_of method status framing =
    if is_tunnel method status then ContentFraming.Tunnel else (if has_no_content method status then
    ContentFraming.Absent else content_stated framing)

-- what the fields state, or nothing where they are ignored
abbrev pub StatesUnless : Bool → Protocol → LineMap → Framing → Type 0
StatesUnless true protocol fields framing = framing ≡ Unstated
StatesUnless false protocol fields framing = States protocol fields framing

-- why the fields are rejected, where they aren't ignored
abbrev pub RejectsContent : Protocol → List ℕ → ℕ → LineMap → Rejection → Type 0
RejectsContent protocol method status fields rejection =
    (states_nothing method status ≡ false) × RejectsFraming protocol fields rejection

-- how the content of a response is delimited (RFC 9112, section 6.3)
pub record DelimitsContent (protocol : Protocol) (method : List ℕ) (status : ℕ) (fields : LineMap)
    (content : ContentFraming) : Type 0 where
  pub stated : Framing
  pub states : StatesUnless (states_nothing method status) protocol fields stated
  pub content_is : content ≡ content_of method status stated

-- what the fields are made to state to the client: one of HTTP/1.0 doesn't know chunks
abbrev pub sent_framing : Protocol → Framing → Framing
sent_framing Http10 Chunked = Unstated
sent_framing client framing = framing

-- the date, if there is no Date
abbrev pub date_unless : ℕ → List Line → Option ℕ
date_unless date [] = Some date
date_unless date (line ∷ lines) = None

abbrev pub date_if_absent : ℕ → LineMap → Option ℕ
date_if_absent date fields = date_unless date (fields (codes "date"))

-- ---- outcomes

-- a response that isn't rejected, and what its fields state about its content
pub record IsAcceptedResponse (gateway : Gateway) (response : Response) (framing : Framing) : Type 0 where
  pub states : StatesUnless (states_nothing response.method response.status) response.protocol response.fields framing
  pub options : HasFairOptions gateway response.fields
  pub same_protocol : (response.status == 101) ≡ false

-- the client knows such a response
abbrev pub is_known_to : Protocol → ℕ → Bool
is_known_to Http10 status = not (is_interim status)
is_known_to Http11 status = true

-- a response that may be forwarded
pub record IsForwardableResponse (gateway : Gateway) (response : Response) : Type 0 where
  pub stated : Framing
  pub accepted : IsAcceptedResponse gateway response stated
  pub known : is_known_to response.client response.status ≡ true

-- the message that the gateway sends for a response that it received at a date
abbrev pub response_message : ℕ → Response → Framing → Message
response_message date response framing =
    record {
      protocol = response.protocol;
      host = None;
      date = date_if_absent date response.fields;
      hops = None;
      framing = framing;
    }

-- a response that is forwarded
pub record IsForwardedResponse (gateway : Gateway) (date : ℕ) (response : Response) (sent : ForwardedResponse) : Type 0
  where
    pub stated : Framing
    pub accepted : IsAcceptedResponse gateway response stated
    pub known : is_known_to response.client response.status ≡ true
    pub content : sent.content ≡ content_of response.method response.status stated
    pub framing : sent.framing ≡ sent_framing response.client stated
    pub fields : Forwards gateway (response_message date response sent.framing) response.fields
        (lines_under (fields_of sent.fields.items))

-- an interim response that the client doesn't know
pub record IsDiscarded (gateway : Gateway) (response : Response) : Type 0 where
  pub stated : Framing
  pub accepted : IsAcceptedResponse gateway response stated
  pub unknown : is_known_to response.client response.status ≡ false

-- why a response is rejected
abbrev pub RejectsResponse : Gateway → Response → Rejection → Type 0
RejectsResponse gateway response Rejection.SwitchedProtocols = (response.status == 101) ≡ true
RejectsResponse gateway response Rejection.InvalidOption =
    RejectsOptions gateway response.fields Rejection.InvalidOption
RejectsResponse gateway response Rejection.ProtectedOption =
    RejectsOptions gateway response.fields Rejection.ProtectedOption
RejectsResponse gateway response rejection =
    RejectsContent response.protocol response.method response.status response.fields rejection

abbrev pub IsResponseOutcome : Gateway → ℕ → Response → ResponseOutcome → Type 0
IsResponseOutcome gateway date response (Forward sent) = IsForwardedResponse gateway date response sent
IsResponseOutcome gateway date response Discard = IsDiscarded gateway response
IsResponseOutcome gateway date response (Reject rejection) = RejectsResponse gateway response rejection
