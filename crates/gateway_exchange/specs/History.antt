-- Every history of calls on a gateway's connection, and what is true after it.
use Rattle.std.specs.Prelude.{◌≡◌, ◌⊎◌, ⊤, ℕ, ◌≤◌, min, Bool, true, false, List, [], ◌∷◌, ◌++◌, length, take, Option}
use Rattle.{std.specs.{Prelude.{Some, None, codes}, List.concat}, headers.specs.LineMap.lines_at}
use Rattle.{http_header.specs.{FieldValue.FieldValue, HeaderMap.Entries}, http1.specs.Fields.Header}
use Rattle.http1.specs.declared.conn.{BodySize.{BodySize, TheVariants.Known}, Limits.Limits}
use Rattle.{http1.specs.declared.error.WriteError.WriteError, http1_typed.specs.Parts.reason_of}
use Rattle.gateway_messages.specs.{FieldLines.fields_of, Responses.IsForwardedResponse}
use Rattle.{gateway_exchange.specs.Messages.response_size, gateway_connection.specs.Exchanges.Request}
use Rattle.gateway_connection.specs.declared.event.OriginResponse.{OriginResponse}
use Rattle.gateway_connection.specs.History as Origin
use Rattle.gateway_connection.specs.Steps as OriginSteps
use Rattle.gateway_connection.specs.declared.origin.OriginConnection.{OriginConnection}
use Rattle.server_stream.specs.History as Stream
use Rattle.server_stream.specs.Steps as StreamSteps
use Rattle.server_stream.specs.Exchanges.{Bare, Exchange, Final, Response, Begun, Switched}
use Rattle.{server_stream.specs.declared.event.StreamRequest.StreamRequest, gateway_exchange.specs.Own.closing}
use Rattle.gateway_exchange.specs.{Own.{own_fields, own_status}, Decisions.IsDecision, Passing.{IsSwitched, IsTrailers}}
use Rattle.gateway_exchange.specs.Passing.{answered, are_addable, head_lines, with_conditions}
use Rattle.gateway_messages.specs.declared.response.ForwardedResponse.{ForwardedResponse}
use Rattle.gateway_exchange.specs.declared.decision.{RequestDecision.TheVariants.Send, AskedRequest.AskedRequest}
use Rattle.gateway_exchange.specs.declared.{connection.GatewayConnection.GatewayConnection, pass.Heard.Heard}
use Rattle.gateway_exchange.specs.declared.{event.GatewayEvent.GatewayEvent, date.OwnDate.OwnDate, own.Own.Own}
use Rattle.gateway_exchange.specs.{declared.rules.{Peer.Peer, GatewayRules.GatewayRules}, Steps.{Answers, AsksAgain}}
use Rattle.gateway_exchange.specs.Steps.{ChangesClient, ChangesOrigin, Conditions, Connects, Dates, EndsGiving}
use Rattle.gateway_exchange.specs.Steps.{FinishesClient, Gives, HandsOutOrigin, IsNew, Passes, RefusesGiving}
use Rattle.gateway_exchange.specs.Steps.{ReceivesOrigin, RefusesInGiving, Says, Sends, Settles, TakesClient}
use Rattle.gateway_exchange.specs.Steps.{Adds, TakesOrigin, TimesOut, is_origin_open, output_of}
use Rattle.gateway_exchange.specs.declared.own.Own.TheVariants as Because
use Rattle.gateway_exchange.specs.declared.connection.Stage.TheVariants as At

-- the head of a response that the caller gave
pub record GivenHead : Type 0 where
  pub status : ℕ
  pub reason : List ℕ
  pub fields : List Header
  pub size : BodySize

-- the bytes that were received and written over a connection to an origin, also before it was handed in
pub record Traffic : Type 0 where
  pub received : List ℕ
  pub sent : List ℕ

-- field lines that the caller added to an origin's response while it waited
pub record Addition : Type 0 where
  pub response : OriginResponse
  pub lines : List Header

-- what the caller passed in: who the client is, the rules of its calls, the heads of the responses that it gave, what
-- it added to others, and what went over each connection to an origin, of which the last one that was handed in is the
-- first here
pub record Uses : Type 0 where
  pub peer : Peer
  pub rules : List GatewayRules
  pub given : List GivenHead
  pub added : List Addition
  pub traffic : List Traffic

pub record Past : Type 0 where
  -- the bytes that were received of the client, and written to it
  pub received : List ℕ
  pub sent : List ℕ
  pub uses : Uses

abbrev pub no_past : Peer → Past
no_past peer = record {
  received = [];
  sent = [];
  uses = record { peer = peer; rules = []; given = []; added = []; traffic = [] };
}

abbrev pub with_rules : GatewayRules → Uses → Uses
with_rules rules uses = record uses { rules = rules ∷ uses.rules }

abbrev pub with_given : GivenHead → Uses → Uses
with_given head uses = record uses { given = head ∷ uses.given }

abbrev pub with_added : Addition → Uses → Uses
with_added addition uses = record uses { added = addition ∷ uses.added }

abbrev pub with_traffic : Traffic → Uses → Uses
with_traffic t uses = record uses { traffic = t ∷ uses.traffic }

abbrev pub traffic_of : Origin.Past → Traffic
traffic_of p = record { received = p.received; sent = p.sent }

-- bytes went over the last connection
abbrev pub on_last : (Traffic → Traffic) → List Traffic → List Traffic
on_last f [] = []
on_last f (t ∷ older) = f t ∷ older

-- they are received if it is open
abbrev pub receives : Bool → List ℕ → Traffic → Traffic
receives true bytes t = record t { received = t.received ++ bytes }
receives false bytes t = t

abbrev pub writes : List ℕ → Traffic → Traffic
writes bytes t = record t { sent = t.sent ++ bytes }

abbrev pub goes_over : (Traffic → Traffic) → Uses → Uses
goes_over f uses = record uses { traffic = on_last f uses.traffic }

-- so much of the output of an origin's connection, if there is one
abbrev pub written_of : ℕ → Option OriginConnection → List ℕ
written_of count origin = take (min count (length (output_of origin))) (output_of origin)

abbrev pub IsIn : {A : Type 0} → A → List A → Type 0
IsIn x [] = ⊥
IsIn x (first ∷ later) = (x ≡ first) ⊎ IsIn x later

-- a history of calls led to this connection to an origin
abbrev pub IsOriginReached : Limits → OriginConnection → Type 0
IsOriginReached limits origin = (p : Origin.Past) × Origin.IsReached limits origin p

-- a history of calls led to this connection, and this was received and written in it; each connection to an origin that
-- was handed in had such a history too
pub data IsReached (limits : Limits) : GatewayConnection → Past → Type 0 where
  Opened : (peer : Peer) (m : GatewayConnection) → IsNew limits peer m → IsReached limits m (no_past peer)
  Received : (old new : GatewayConnection) (p : Past) (bytes : List ℕ) → IsReached limits old p
      → old.client.ended ≡ false → TakesClient old bytes new
      → IsReached limits new (record p { received = p.received ++ bytes })
  Finished : (old new : GatewayConnection) (p : Past) → IsReached limits old p → FinishesClient old new
      → IsReached limits new p
  Written : (old new : GatewayConnection) (p : Past) (count : ℕ) → IsReached limits old p
      → count ≤ length old.client.output.items
      → ChangesClient (λ before after. StreamSteps.HandsOut before count after) old new
      → IsReached limits new (record p { sent = p.sent ++ take count old.client.output.items })
  OriginReceived : (old new : GatewayConnection) (p : Past) (bytes : List ℕ)
      → IsReached limits old p → ChangesOrigin (ReceivesOrigin bytes) old new
      → IsReached limits new (record p { uses = goes_over (receives (is_origin_open old.origin) bytes) p.uses })
  OriginFinished : (old new : GatewayConnection) (p : Past) → IsReached limits old p
      → ChangesOrigin OriginSteps.Finishes old new → IsReached limits new p
  OriginWritten : (old new : GatewayConnection) (p : Past) (count : ℕ) → IsReached limits old p
      → ChangesOrigin (HandsOutOrigin count) old new
      → IsReached limits new (record p { uses = goes_over (writes (written_of count old.origin)) p.uses })
  Said : (old new : GatewayConnection) (p : Past) (rules : GatewayRules) (date : ℕ) (event : GatewayEvent)
      → IsReached limits old p → Says rules date old event new
      → IsReached limits new (record p { uses = with_rules rules p.uses })
  Sent : (old new : GatewayConnection) (p : Past) (origin : OriginConnection) (o : Origin.Past) (watches : Bool)
      → IsReached limits old p → old.stage ≡ At.Asking → Origin.IsReached limits origin o
      → Sends old origin watches new → IsReached limits new (record p { uses = with_traffic (traffic_of o) p.uses })
  Conditioned : (old new : GatewayConnection) (p : Past) (etags since : Option FieldValue)
      → IsReached limits old p → Conditions etags since old new → IsReached limits new p
  Answered : (old between new : GatewayConnection) (p : Past) (status : ℕ) → IsReached limits old p
      → Settles old between → Answers between (Because.Chosen status) new → IsReached limits new p
  Again : (old new : GatewayConnection) (p : Past) → IsReached limits old p → AsksAgain old new → IsReached limits new p
  Connected : (old new : GatewayConnection) (p : Past) → IsReached limits old p → Connects old new
      → IsReached limits new p
  Given : (old new : GatewayConnection) (p : Past) (status : ℕ) (reason : List ℕ) (fields : List Header)
      (size : BodySize) → IsReached limits old p → Gives old status reason fields size new
      → IsReached limits new (record p {
        uses = with_given (record { status = status; reason = reason; fields = fields; size = size }) p.uses;
      })
  GivenPiece : (old new : GatewayConnection) (p : Past) (piece : List ℕ) → IsReached limits old p
      → old.stage ≡ At.Giving → ChangesClient (λ before after. StreamSteps.Puts before piece after) old new
      → IsReached limits new p
  GivenEnd : (old new : GatewayConnection) (p : Past) (trailers : List Header) → IsReached limits old p
      → EndsGiving old trailers new → IsReached limits new p
  NotGiven : (old new : GatewayConnection) (p : Past) (refusal : Option WriteError) (error : WriteError)
      → IsReached limits old p → RefusesInGiving refusal old error new → IsReached limits new p
  NotBegun : (old new : GatewayConnection) (p : Past) (status : ℕ) (reason : List ℕ) (fields : List Header)
      (size : BodySize) (error : WriteError) → IsReached limits old p
      → RefusesGiving old status reason fields size error new → IsReached limits new p
  Added : (old new : GatewayConnection) (p : Past) (h : Heard) (lines : List Header) → IsReached limits old p
      → Adds h lines old new → IsReached limits new (record p {
        uses = with_added (record { response = h.response; lines = lines }) p.uses;
      })
  Passed : (old new : GatewayConnection) (p : Past) → IsReached limits old p → Passes old new → IsReached limits new p
  TimedOut : (old new : GatewayConnection) (p : Past) → IsReached limits old p → TimesOut old new
      → IsReached limits new p
  Taken : (old new : GatewayConnection) (p : Past) (origin : Option OriginConnection) → IsReached limits old p
      → TakesOrigin old origin new → IsReached limits new p
  Dated : (old new : GatewayConnection) (p : Past) (now : ℕ) → IsReached limits old p → Dates old now new
      → IsReached limits new p
  Closing : (old new : GatewayConnection) (p : Past) → IsReached limits old p → new ≡ record old { is_last = true }
      → IsReached limits new p

-- ---- what is true after every history

-- a connection to an origin, if there is one, was reached by calls of its own
abbrev pub OriginIn : Limits → Option OriginConnection → Type 0
OriginIn limits (Some origin) = IsOriginReached limits origin
OriginIn limits None = ⊤

-- the response is the gateway's own, which has no content
abbrev pub IsOwn : Response → Type 0
IsOwn r = (own : Own)
    × (is_last : Bool) × (date : Option OwnDate) × (r.status ≡ own_status own) × (r.reason ≡ reason_of (own_status own))
    × (r.headers ≡ own_fields is_last date own) × (r.size ≡ Known 0) × (r.pieces ≡ [])

-- its head was given by the caller; that of the last response says so too
abbrev pub IsGiven : Uses → Response → Type 0
IsGiven uses r = (is_last : Bool) × (fields : List Header) × (r.headers ≡ closing is_last fields)
    × IsIn (record { status = r.status; reason = r.reason; fields = fields; size = r.size }) uses.given

-- the request is sent so by rules that were passed in
abbrev pub IsDecided : Uses → AskedRequest → Type 0
IsDecided uses a = (rules : GatewayRules) × IsIn rules uses.rules × IsDecision rules uses.peer a.head (Send a.outgoing)

-- these are the fields of the request as it is sent, maybe with conditions that the caller puts
abbrev pub AreFieldsOf : AskedRequest → List Header → Type 0
AreFieldsOf a fields =
    (fields ≡ fields_of a.outgoing.fields.items)
    ⊎ ((etags : Option FieldValue) × (since : Option FieldValue)
    × (fields ≡ with_conditions etags since (fields_of a.outgoing.fields.items)))

-- what was sent to the origin is this request
abbrev pub IsFor : AskedRequest → Request → Type 0
IsFor a request =
    (request.method ≡ a.head.method) × (request.target ≡ a.outgoing.target) × AreFieldsOf a request.headers

-- what went over a connection is a first part of this
abbrev pub IsFrontOf : Traffic → Traffic → Type 0
IsFrontOf t all =
    (more : List ℕ) × (t.received ++ more ≡ all.received) × (later : List ℕ) × (t.sent ++ later ≡ all.sent)

-- it went over one of these connections, up to some time
abbrev pub WentOver : Traffic → List Traffic → Type 0
WentOver t [] = ⊥
WentOver t (first ∷ later) = IsFrontOf t first ⊎ WentOver t later

-- what is forwarded of a response to this request, by rules that the caller passed in
abbrev pub IsForwarded : Uses → AskedRequest → OriginResponse → ForwardedResponse → Type 0
IsForwarded uses a response sent = (rules : GatewayRules) × IsIn rules uses.rules
    × (date : ℕ) × IsForwardedResponse rules.gateway date (answered a response.status response) sent

-- the caller added these field lines to this response while it waited, or none; none frames it, is for one connection,
-- or is of a name that the gateway writes itself
abbrev pub AreAdded : Uses → OriginResponse → List Header → Type 0
AreAdded uses response lines =
    (lines ≡ [])
    ⊎ (IsIn (record { response = response; lines = lines }) uses.added × (are_addable lines ≡ true))

-- what is forwarded of a final response, and what the caller added to it
abbrev pub IsHeard : Uses → AskedRequest → Heard → Type 0
IsHeard uses a h =
    IsForwarded uses a h.response h.sent × AreAdded uses h.response (fields_of h.added.items)

-- The response has the head that is sent of this one, and this content: its fields are those that are forwarded, and
-- then, once, those that the caller added. The head of the last response says so too.
pub record HasHead (h : Heard) (content : List ℕ) (r : Response) : Type 0 where
  pub status : r.status ≡ h.response.status
  pub reason : r.reason ≡ h.response.reason
  pub is_last : Bool
  pub headers : r.headers ≡ closing is_last (head_lines h)
  pub size : r.size ≡ response_size h.sent.content
  pub content_is : concat r.pieces ≡ content

-- what an origin's connection told of a response, so far, or to its end
abbrev pub now_of : Option (Entries FieldValue) → Request → List OriginResponse → OriginResponse → List ℕ → Origin.Now
now_of None request interim response content = Origin.Hears request interim response content
now_of (Some trailers) request interim response content = Origin.Over (record {
  request = request;
  interim = interim;
  final = record { response = response; content = content; trailers = trailers };
})

-- the response was ended with the trailer fields that are forwarded, or wasn't ended
abbrev pub EndsAs : Uses → Heard → Option (Entries FieldValue) → Option (List Header) → Type 0
EndsAs uses h None None = ⊤
EndsAs uses h (Some trailers) (Some sent) = (rules : GatewayRules)
    × IsIn rules uses.rules × IsTrailers rules.gateway h.sent.framing (lines_at h.response.fields) trailers sent
EndsAs uses h trailers sent = ⊥

-- The response is forwarded: one of the connections to an origin that were handed in told it of this request. Its head
-- and its trailer fields are what is forwarded of the origin's, with what the caller added to the head, and its content
-- is the origin's.
pub record IsPassedOn (limits : Limits) (uses : Uses) (head : StreamRequest) (r : Response) : Type 0 where
  pub asked : AskedRequest
  pub head_is : asked.head ≡ head
  pub decided : IsDecided uses asked
  pub heard : Heard
  pub forwarded : IsHeard uses asked heard
  pub content : List ℕ
  pub puts : HasHead heard content r
  pub trailers : Option (Entries FieldValue)
  pub ends : EndsAs uses heard trailers r.trailers
  pub origin : OriginConnection
  pub past : Origin.Past
  pub reached : Origin.IsReached limits origin past
  pub traffic : WentOver (traffic_of past) uses.traffic
  pub request : Request
  pub sends : IsFor asked request
  pub interim : List OriginResponse
  pub told : past.now ≡ now_of trailers request interim heard.response content

-- the response to a request: the gateway's own, or the caller's, or an origin's
abbrev pub IsServed : Limits → Uses → StreamRequest → Response → Type 0
IsServed limits uses head r = IsOwn r ⊎ IsGiven uses r ⊎ IsPassedOn limits uses head r

-- An interim response is forwarded: one of the connections to an origin that were handed in told it of this
-- request. Its head is what is forwarded of the origin's.
pub record IsInterimPassedOn (limits : Limits) (uses : Uses) (head : StreamRequest) (b : Bare) : Type 0 where
  pub asked : AskedRequest
  pub head_is : asked.head ≡ head
  pub decided : IsDecided uses asked
  pub response : OriginResponse
  pub sent : ForwardedResponse
  pub forwarded : IsForwarded uses asked response sent
  pub puts : b ≡ record {
    minor = 1;
    status = response.status;
    reason = response.reason;
    headers = fields_of sent.fields.items;
  }
  pub origin : OriginConnection
  pub past : Origin.Past
  pub reached : Origin.IsReached limits origin past
  pub traffic : WentOver (traffic_of past) uses.traffic
  pub request : Request
  pub sends : IsFor asked request
  pub before : List OriginResponse
  pub told : past.now ≡ Origin.Asked request (before ++ response ∷ [])

-- the 100 (Continue) that the gateway sends itself
abbrev pub own_interim : Bare
own_interim = record { minor = 1; status = 100; reason = codes "Continue"; headers = [] }

abbrev pub IsInterim : Limits → Uses → StreamRequest → Bare → Type 0
IsInterim limits uses head b = (b ≡ own_interim) ⊎ IsInterimPassedOn limits uses head b

abbrev pub AreInterim : Limits → Uses → StreamRequest → List Bare → Type 0
AreInterim limits uses head [] = ⊤
AreInterim limits uses head (b ∷ later) = IsInterim limits uses head b × AreInterim limits uses head later

abbrev pub AreServed : Limits → Uses → List Exchange → Type 0
AreServed limits uses [] = ⊤
AreServed limits uses (e ∷ later) =
    IsServed limits uses e.head e.response × AreInterim limits uses e.head e.interim × AreServed limits uses later

-- The response that ends HTTP is forwarded: one of the connections to an origin that were handed in told it of this
-- request.
pub record IsSwitchPassedOn (limits : Limits) (uses : Uses) (head : StreamRequest) (b : Bare) : Type 0 where
  pub asked : AskedRequest
  pub head_is : asked.head ≡ head
  pub decided : IsDecided uses asked
  pub rules : GatewayRules
  pub among : IsIn rules uses.rules
  pub date : ℕ
  pub response : OriginResponse
  pub fields : List Header
  pub switches : IsSwitched rules.gateway date asked response fields
  pub status : b.status ≡ response.status
  pub reason : b.reason ≡ response.reason
  pub headers : b.headers ≡ fields
  pub origin : OriginConnection
  pub past : Origin.Past
  pub reached : Origin.IsReached limits origin past
  pub traffic : WentOver (traffic_of past) uses.traffic
  pub request : Request
  pub sends : IsFor asked request
  pub interim : List OriginResponse
  pub told : past.now ≡ now_of (Some []) request interim response []

-- it is that, or the 200 with which the caller answers a CONNECT
abbrev pub IsSwitch : Limits → Uses → StreamRequest → Bare → Type 0
IsSwitch limits uses head b =
    ((b.status ≡ 200) × (b.reason ≡ codes "OK") × (b.headers ≡ [])) ⊎ IsSwitchPassedOn limits uses head b

-- the head of the request now, if one was told
abbrev pub head_of : Stream.Heard → Option StreamRequest
head_of Stream.Nothing = None
head_of (Stream.Part head content) = Some head
head_of (Stream.Whole head content trailers) = Some head

abbrev pub IsServedNow : Limits → Uses → Option StreamRequest → Final → Type 0
IsServedNow limits uses (Some head) (Begun r) = IsServed limits uses head r
IsServedNow limits uses (Some head) (Switched b) = IsSwitch limits uses head b
IsServedNow limits uses head final = ⊤

abbrev pub AreInterimNow : Limits → Uses → Option StreamRequest → List Bare → Type 0
AreInterimNow limits uses (Some head) interim = AreInterim limits uses head interim
AreInterimNow limits uses None interim = ⊤

-- each response, also the one now, as far as it was put
pub record Served (limits : Limits) (uses : Uses) (p : Stream.Past) : Type 0 where
  pub before : AreServed limits uses p.before
  pub interim : AreInterimNow limits uses (head_of p.heard) p.answer.interim
  pub now : IsServedNow limits uses (head_of p.heard) p.answer.final

-- The theorem. The client's connection was reached by calls of its own, by which the same bytes were received and
-- written: so what was written to the client, and then waits for it, is one response for each of its requests, in
-- order, literally and to its end, but for the last one, which may be cut off. Each of these responses is the gateway's
-- own, or has a head that the caller gave, or is what is forwarded of the response of an origin to that request, with
-- what the caller added to its head; an interim one is the gateway's 100 (Continue), or an origin's. The origin's
-- connection was reached by calls of its own too: so it was sent whole requests, and then maybe a first part of one.
pub record Exchanged (limits : Limits) (m : GatewayConnection) (p : Past) : Type 0 where
  pub client : Stream.Past
  pub reached : Stream.IsReached limits m.client client
  pub received : client.received ≡ p.received
  pub sent : client.sent ≡ p.sent
  pub exchanged : Stream.Exchanged limits m.client client
  pub served : Served limits p.uses client
  pub origin : OriginIn limits m.origin
