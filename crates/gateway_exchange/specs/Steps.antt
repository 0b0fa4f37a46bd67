-- What each call does.
use Rattle.std.specs.Prelude.{◌≡◌, ◌≢◌, ◌⊎◌, ⊤, ℕ, ◌<◌, Bool, true, false, ◌&&◌, ◌||◌, not, List, [], ◌∷◌}
use Rattle.std.specs.Prelude.{length, Option, Some, None, codes, min, option_map}
use Rattle.std.specs.Global.{Vec}
use Rattle.{http_header.specs.{FieldValue.FieldValue, HeaderMap.Entries}, http1.specs.Conn.data_refusal}
use Rattle.http1.specs.{Conn.finish_refusal, Fields.Header, Server.{informational_refusal, response_refusal}}
use Rattle.http1.specs.{Server.upgrade_refusal, declared.conn.{BodySize.BodySize, Limits.Limits}}
use Rattle.{http1.specs.declared.error.WriteError.WriteError, gateway_messages.specs.FieldLines.fields_of}
use Rattle.gateway_messages.specs.Responses.{IsDiscarded, IsForwardedResponse, RejectsResponse}
use Rattle.gateway_messages.specs.declared.expectation.Expectation.{Expectation, TheVariants.Answered}
use Rattle.gateway_messages.specs.declared.{field_line.FieldLine.FieldLine, rejection.Rejection.Rejection}
use Rattle.gateway_messages.specs.declared.response.ContentFraming.{ContentFraming, TheVariants.Absent}
use Rattle.gateway_messages.specs.declared.response.ForwardedResponse.{ForwardedResponse}
use Rattle.gateway_connection.specs.declared.event.{OriginEvent.OriginEvent, OriginFault.OriginFault}
use Rattle.gateway_connection.specs.declared.event.OriginResponse.{OriginResponse}
use Rattle.gateway_connection.specs.declared.origin.OriginConnection.{OriginConnection}
use Rattle.gateway_connection.specs.Steps as Origin
use Rattle.gateway_connection.specs.declared.event.OriginFault.TheVariants as Faults
use Rattle.server_stream.specs.Steps as Stream
use Rattle.server_stream.specs.declared.connection.StreamConnection.{StreamConnection}
use Rattle.server_stream.specs.declared.event.{StreamRequest.StreamRequest, StreamEvent.StreamEvent}
use Rattle.gateway_exchange.specs.{Decisions.IsDecision, Own.{PutsOwn, RefusesOwn, closing}, Passing.EndsRequest}
use Rattle.gateway_exchange.specs.Passing.{EndsResponse, IsSwitched, IsUnswitched, PutsInterim, PutsRequest}
use Rattle.gateway_exchange.specs.Passing.{PutsResponse, PutsSwitch, RefusesInterim, RefusesRequest, RefusesRequestEnd}
use Rattle.gateway_exchange.specs.Passing.{RefusesResponse, RefusesResponseEnd, RefusesSwitch, answered}
use Rattle.gateway_exchange.specs.{Passing.{are_addable, with_conditions}}
use Rattle.gateway_exchange.specs.declared.connection.GatewayConnection.{GatewayConnection}
use Rattle.gateway_exchange.specs.declared.{connection.Stage.Stage, decision.AskedRequest.AskedRequest}
use Rattle.gateway_exchange.specs.declared.decision.{RequestDecision.RequestDecision}
use Rattle.gateway_exchange.specs.declared.event.{GatewayEvent.GatewayEvent, ExchangePhase.ExchangePhase, Wants.Wants}
use Rattle.gateway_exchange.specs.declared.{date.OwnDate.OwnDate, own.Own.Own, pass.Heard.Heard, rules.Peer.Peer}
use Rattle.gateway_exchange.specs.declared.{rules.GatewayRules.GatewayRules, tunnel.TheConstants.MOST_WAITING}
use Rattle.gateway_connection.specs.declared.event.OriginEvent.TheVariants as Comes
use Rattle.gateway_exchange.specs.declared.connection.Stage.TheVariants as At
use Rattle.gateway_exchange.specs.declared.decision.RequestDecision.TheVariants as Decides
use Rattle.gateway_exchange.specs.declared.event.GatewayEvent.TheVariants as Tells
use Rattle.gateway_exchange.specs.declared.event.ExchangePhase.TheVariants as Does
use Rattle.gateway_exchange.specs.declared.own.Own.TheVariants as Because
use Rattle.http1.specs.declared.error.WriteError.TheVariants as Write
use Rattle.server_stream.specs.declared.event.StreamEvent.TheVariants as Is

-- A connection, with those of its client and of no origin
pub record IsNew (limits : Limits) (peer : Peer) (m : GatewayConnection) : Type 0 where
  pub client : Stream.IsNew limits m.client
  pub origin : m.origin ≡ None
  pub stage : m.stage ≡ At.Idle
  pub peer_is : m.peer ≡ peer
  pub asked : m.asked ≡ None
  pub heard : m.heard ≡ None
  pub own : m.own ≡ None
  pub date : m.date ≡ None
  pub is_last : m.is_last ≡ false

-- ---- bytes

-- bytes of the client are received
abbrev pub TakesClient : GatewayConnection → List ℕ → GatewayConnection → Type 0
TakesClient old bytes new = Stream.Receives old.client bytes new.client
    × (new ≡ record old { client = new.client; client_hungry = new.client_hungry; begun = new.begun })

-- and none after the end of its input
abbrev pub ReceivesClient : GatewayConnection → List ℕ → GatewayConnection → Type 0
ReceivesClient old bytes new =
    ((old.client.ended ≡ true) × (new ≡ old)) ⊎ ((old.client.ended ≡ false) × TakesClient old bytes new)

-- a change of the client's connection alone
abbrev pub ChangesClient : (StreamConnection → StreamConnection → Type 0) → GatewayConnection → GatewayConnection
    → Type 0
ChangesClient P old new = P old.client new.client × (new ≡ record old { client = new.client })

abbrev pub FinishesClient : GatewayConnection → GatewayConnection → Type 0
FinishesClient old new =
    Stream.Finishes old.client new.client × (new ≡ record old { client = new.client; client_hungry = false })

-- a change of the origin's connection, if there is one
abbrev pub OnOrigin : (OriginConnection → OriginConnection → Type 0) → Option OriginConnection
    → Option OriginConnection → Type 0
OnOrigin P (Some old) (Some new) = P old new
OnOrigin P None None = ⊤
OnOrigin P old new = ⊥

-- bytes of the origin: none are received after the end of its input
abbrev pub ReceivesOrigin : List ℕ → OriginConnection → OriginConnection → Type 0
ReceivesOrigin bytes old new =
    ((old.ended ≡ true) × (new ≡ old)) ⊎ ((old.ended ≡ false) × Origin.Receives old bytes new)

abbrev pub HandsOutOrigin : ℕ → OriginConnection → OriginConnection → Type 0
HandsOutOrigin count old new = Origin.HandsOut old (min count (length old.output.items)) new

-- a change of the origin's connection, after which it may be asked again
abbrev pub ChangesOrigin : (OriginConnection → OriginConnection → Type 0) → GatewayConnection → GatewayConnection
    → Type 0
ChangesOrigin P old new =
    OnOrigin P old.origin new.origin × (new ≡ record old { origin = new.origin; origin_hungry = new.origin_hungry })

abbrev pub is_empty : {A : Type 0} → List A → Bool
is_empty [] = true
is_empty (x ∷ xs) = false

abbrev pub output_of : Option OriginConnection → List ℕ
output_of (Some origin) = origin.output.items
output_of None = []

-- ---- the gateway's own answers

-- the caller says the time
abbrev pub Dates : GatewayConnection → ℕ → GatewayConnection → Type 0
Dates old now new = (d : OwnDate) × (d.date ≡ now) × (new ≡ record old { date = Some d })

-- it is put, and the exchange is over; or that fails, and the client's connection is cut off
abbrev pub Answers : GatewayConnection → Own → GatewayConnection → Type 0
Answers old own new =
    (PutsOwn old.is_last old.date old.client own new.client
    × (new ≡ record old { client = new.client; own = Some own; stage = At.Ended }))
    ⊎ ((error : WriteError) × RefusesOwn old.is_last old.date old.client own error new.client
    × (new ≡ record old { client = new.client; own = Some own; stage = At.Aborted }))

-- the head of a response was put, so it is cut off; or none was, and the gateway answers
abbrev pub Fails : GatewayConnection → Own → GatewayConnection → Type 0
Fails old own new =
    ((old.stage ≡ At.Passing) × (new ≡ record old { stage = At.Aborted }))
    ⊎ ((old.stage ≢ At.Passing) × Answers old own new)

-- ---- requests

-- a request begins
abbrev pub begun : GatewayConnection → GatewayConnection
begun m = record m {
  begun = false;
  whole = false;
  touched = false;
  repeats = false;
  watches = false;
  heard = None;
  conditional = None;
  own = None;
}

-- what was decided of a request is done
abbrev pub Follows : GatewayConnection → StreamRequest → RequestDecision → GatewayConnection → Type 0
Follows old head (Decides.Send outgoing) new =
    new ≡ record old { asked = Some (record { head = head; outgoing = outgoing }); stage = At.Asking }
Follows old head (Decides.Answer own) new = Answers old own new

-- a request is judged by its head, if memory suffices
abbrev pub Considers : GatewayRules → GatewayConnection → StreamRequest → GatewayConnection → Type 0
Considers rules old head new =
    ((decision : RequestDecision) × IsDecision rules old.peer head decision × Follows (begun old) head decision new)
    ⊎ Answers (begun old) Because.OutOfMemory new

-- what becomes of what the client's connection said, where a request is awaited
abbrev pub Awaits : GatewayRules → GatewayConnection → StreamEvent → Option GatewayEvent → GatewayConnection → Type 0
Awaits rules old Is.NeedsInput told new = (told ≡ Some Tells.Waits) × (new ≡ record old { client_hungry = true })
Awaits rules old (Is.Head head) told new = (told ≡ None) × Considers rules old head new
Awaits rules old (Is.Content piece) told new = (told ≡ None) × (new ≡ old)
Awaits rules old (Is.End trailers) told new = (told ≡ None) × (new ≡ record old { whole = true; begun = false })
Awaits rules old (Is.Rejected why) told new = (told ≡ None) × Answers old (Because.Unread why) new
Awaits rules old event told new = (told ≡ None) × (new ≡ record old { stage = At.Closed })

abbrev pub with_client : GatewayConnection → StreamConnection → GatewayConnection
with_client m client = record m { client = client }

abbrev pub AwaitsRequest : GatewayRules → GatewayConnection → Option GatewayEvent → GatewayConnection → Type 0
AwaitsRequest rules old told new = (event : StreamEvent) × (client : StreamConnection)
    × Stream.Says old.client event client × Awaits rules (with_client old client) event told new

-- ---- sending

-- the fields that are sent of a request: with the conditions of a cache, if there are any
abbrev pub fields_in : Option (List FieldLine) → AskedRequest → List Header
fields_in (Some fields) a = fields_of fields
fields_in None a = fields_of a.outgoing.fields.items

abbrev pub sent_fields : GatewayConnection → AskedRequest → List Header
sent_fields m a = fields_in (option_map (λ fields. fields.items) m.conditional) a

-- the end of a request that was read whole before is put too
abbrev pub EndsIf : Bool → OriginConnection → OriginConnection → Type 0
EndsIf true old new = Origin.Ends old [] new
EndsIf false old new = new ≡ old

abbrev pub Begins : AskedRequest → List Header → Bool → OriginConnection → OriginConnection → Type 0
Begins a fields whole old new =
    (between : OriginConnection) × PutsRequest a fields old between × EndsIf whole between new

-- nothing is put, or the head alone
abbrev pub RefusesBegin : AskedRequest → List Header → OriginConnection → WriteError → OriginConnection → Type 0
RefusesBegin a fields old error new =
    RefusesRequest a fields old error new
    ⊎ ((between : OriginConnection) × PutsRequest a fields old between
    × Origin.RefusesWrite (finish_refusal between.client.writing []) between error new)

-- the connection with this one to an origin
abbrev pub taking : GatewayConnection → OriginConnection → Bool → GatewayConnection
taking m origin watches = record m { origin = Some origin; origin_hungry = false; watches = watches }

abbrev pub is_answered : Expectation → Bool
is_answered Answered = true
is_answered expectation = false

-- the gateway sends the 100 (Continue) itself
abbrev pub continues : GatewayConnection → AskedRequest → Bool
continues m a = is_answered a.outgoing.expectation && not m.repeats

abbrev pub ContinuesIf : Bool → GatewayConnection → GatewayConnection → Type 0
ContinuesIf false old new = new ≡ old
ContinuesIf true old new =
    ChangesClient (λ before after. Stream.Informs before 100 (codes "Continue") [] after) old new
    ⊎ ((error : WriteError) × (client : StreamConnection)
    × Stream.RefusesWrite (informational_refusal old.client.server 100 (codes "Continue") []) old.client error client
    × Answers (record old { client = client }) (Because.Unsendable error) new)

-- the request is put to the origin as far as it was read, and whether the gateway sends the 100
abbrev pub BeginsAt : Option AskedRequest → GatewayConnection → OriginConnection → OriginConnection → Bool → Type 0
BeginsAt (Some a) m old new answers = Begins a (sent_fields m a) m.whole old new × (answers ≡ continues m a)
BeginsAt None m old new answers = ⊥

abbrev pub RefusesBeginAt : Option AskedRequest → GatewayConnection → OriginConnection → WriteError → OriginConnection
    → Type 0
RefusesBeginAt (Some a) m old error new = RefusesBegin a (sent_fields m a) old error new
RefusesBeginAt None m old error new = (error ≡ Write.State) × (new ≡ old)

-- the request that waits is sent over this connection, or answered
abbrev pub Sends : GatewayConnection → OriginConnection → Bool → GatewayConnection → Type 0
Sends old origin watches new =
    ((after : OriginConnection) × (answers : Bool) × BeginsAt old.asked old origin after answers
    × ContinuesIf answers (record (taking old after watches) { stage = At.Forwarding }) new)
    ⊎ ((after : OriginConnection) × (error : WriteError) × RefusesBeginAt old.asked old origin error after
    × Answers (taking old after watches) (Because.Unsent error) new)

-- the fields of the request that waits have these conditions
abbrev pub Conditions : Option FieldValue → Option FieldValue → GatewayConnection → GatewayConnection → Type 0
Conditions etags since old new =
    ((old.asked ≡ None) × (new ≡ old))
    ⊎ ((a : AskedRequest) × (old.asked ≡ Some a)
    × (sent_fields new a ≡ with_conditions etags since (fields_of a.outgoing.fields.items))
    × (new ≡ record old { conditional = new.conditional }))

-- ---- both directions

-- content is put to the origin
abbrev pub PutsContent : GatewayConnection → List ℕ → GatewayConnection → Type 0
PutsContent old piece new = (before : OriginConnection) × (after : OriginConnection) × (old.origin ≡ Some before)
    × Origin.Puts before piece after × (new ≡ record old { origin = Some after; touched = true })

abbrev pub RefusesContent : GatewayConnection → List ℕ → WriteError → GatewayConnection → Type 0
RefusesContent old piece error new =
    ((old.origin ≡ None) × (error ≡ Write.State) × (new ≡ old))
    ⊎ ((before : OriginConnection) × (after : OriginConnection) × (old.origin ≡ Some before)
    × Origin.RefusesWrite (data_refusal before.client.writing (length piece)) before error after
    × (new ≡ record old { origin = Some after }))

-- the end of the request is put to the origin
abbrev pub PutsRequestEnd : GatewayRules → GatewayConnection → Entries FieldValue → GatewayConnection → Type 0
PutsRequestEnd rules old trailers new =
    (a : AskedRequest) × (before : OriginConnection) × (after : OriginConnection) × (old.asked ≡ Some a)
    × (old.origin ≡ Some before) × EndsRequest rules.gateway a trailers before after
    × (new ≡ record old {
      origin = Some after;
      whole = true;
      begun = false;
      touched = old.touched || not (is_empty trailers);
    })

abbrev pub RefusesEnd : GatewayRules → GatewayConnection → Entries FieldValue → WriteError → GatewayConnection → Type 0
RefusesEnd rules old trailers error new =
    ((error ≡ Write.State) × (new ≡ old))
    ⊎ ((a : AskedRequest) × (before : OriginConnection) × (after : OriginConnection) × (old.asked ≡ Some a)
    × (old.origin ≡ Some before) × RefusesRequestEnd rules.gateway a trailers before error after
    × (new ≡ record old { origin = Some after }))

-- what becomes of what the client's connection said, where its request is passed on
abbrev pub PassesUp : GatewayRules → GatewayConnection → StreamEvent → GatewayConnection → Type 0
PassesUp rules old Is.NeedsInput new = new ≡ record old { client_hungry = true }
PassesUp rules old (Is.Content piece) new =
    PutsContent old piece new
    ⊎ ((error : WriteError) × (between : GatewayConnection) × RefusesContent old piece error between
    × Fails between (Because.Unsent error) new)
PassesUp rules old (Is.End trailers) new =
    PutsRequestEnd rules old trailers new
    ⊎ ((error : WriteError) × (between : GatewayConnection) × RefusesEnd rules old trailers error between
    × Fails between (Because.Unsent error) new)
PassesUp rules old (Is.Rejected why) new = Fails old (Because.Unread why) new
PassesUp rules old event new = new ≡ record old { stage = At.Aborted }

abbrev pub HearsClient : GatewayRules → GatewayConnection → GatewayConnection → Type 0
HearsClient rules old new = (event : StreamEvent) × (client : StreamConnection)
    × Stream.Says old.client event client × PassesUp rules (with_client old client) event new

-- ---- responses

-- what the origin's connection says; none says that it is closed
abbrev pub SaysIn : Option OriginConnection → OriginEvent → Option OriginConnection → Type 0
SaysIn (Some old) event (Some new) = Origin.Says old event new
SaysIn None event None = event ≡ Comes.Closed
SaysIn old event new = ⊥

-- an interim response is put to the client, or dropped, or the gateway answers
abbrev pub PassesInterim : GatewayRules → ℕ → GatewayConnection → AskedRequest → OriginResponse → GatewayConnection
    → Type 0
PassesInterim rules date old a response new =
    ((sent : ForwardedResponse)
    × IsForwardedResponse rules.gateway date (answered a response.status response) sent
    × (ChangesClient (PutsInterim response sent) old new
    ⊎ ((error : WriteError) × (client : StreamConnection) × RefusesInterim response sent old.client error client
    × Fails (with_client old client) (Because.Unsendable error) new)))
    ⊎ (IsDiscarded rules.gateway (answered a response.status response) × (new ≡ old))
    ⊎ ((why : Rejection) × RejectsResponse rules.gateway (answered a response.status response) why
    × Fails old (Because.Response why) new)
    ⊎ Fails old Because.OutOfMemory new

-- the head of the response that waits is put to the client, or the gateway answers
abbrev pub PutsHead : GatewayConnection → Heard → GatewayConnection → Type 0
PutsHead old h new =
    (PutsResponse old.is_last h old.client new.client × (new ≡ record old { client = new.client; stage = At.Passing }))
    ⊎ ((error : WriteError) × (client : StreamConnection) × RefusesResponse old.is_last h old.client error client
    × Answers (with_client old client) (Because.Unsendable error) new)

-- it is put, and remembered for its trailer fields
abbrev pub ShowsHead : GatewayConnection → Heard → GatewayConnection → Type 0
ShowsHead old h new = (between : GatewayConnection) × PutsHead old h between × (new ≡ record between { heard = Some h })

-- it waits for the caller if that watches, and is put otherwise
abbrev pub TellsHead : Bool → GatewayConnection → Heard → GatewayConnection → Type 0
TellsHead true old h new = new ≡ record old { stage = At.Judging; heard = Some h }
TellsHead false old h new = ShowsHead old h new

-- this response waits, and has these field lines after those that are forwarded, in place of any that were added before
abbrev pub Adds : Heard → List Header → GatewayConnection → GatewayConnection → Type 0
Adds h lines old new = (old.stage ≡ At.Judging) × (old.heard ≡ Some h) × (are_addable lines ≡ true)
    × (added : Vec FieldLine) × (fields_of added.items ≡ lines)
    × (new ≡ record old { heard = Some (record h { added = added }) })

-- nothing is added: none waits, or one of them is a field that no caller adds
abbrev pub RefusesAdding : List Header → GatewayConnection → WriteError → GatewayConnection → Type 0
RefusesAdding lines old error new = (new ≡ old)
    × (((error ≡ Write.State) × ((old.stage ≢ At.Judging) ⊎ (old.heard ≡ None)))
    ⊎ ((error ≡ Write.InvalidHeader) × (are_addable lines ≡ false)))

-- the response that waits is put
abbrev pub Passes : GatewayConnection → GatewayConnection → Type 0
Passes old new =
    ((old.stage ≡ At.Judging) × (h : Heard) × (old.heard ≡ Some h) × ShowsHead (record old { heard = None }) h new)
    ⊎ (((old.stage ≢ At.Judging) ⊎ (old.heard ≡ None)) × (new ≡ old))

abbrev pub PassesHead : GatewayRules → ℕ → GatewayConnection → AskedRequest → OriginResponse → GatewayConnection
    → Type 0
PassesHead rules date old a response new =
    ((sent : ForwardedResponse)
    × IsForwardedResponse rules.gateway date (answered a response.status response) sent
    × (nothing : Vec FieldLine) × (nothing.items ≡ [])
    × TellsHead old.watches old (record { response = response; sent = sent; added = nothing }) new)
    ⊎ (IsDiscarded rules.gateway (answered a response.status response) × (new ≡ old))
    ⊎ ((why : Rejection) × RejectsResponse rules.gateway (answered a response.status response) why
    × Fails old (Because.Response why) new)
    ⊎ Fails old Because.OutOfMemory new

-- a piece of the response is put to the client, and told if the caller watches; or the client's connection is cut off
abbrev pub PassesPiece : GatewayConnection → List ℕ → Option GatewayEvent → GatewayConnection → Type 0
PassesPiece old piece told new =
    (Stream.Puts old.client piece new.client
    × (((old.watches ≡ true) × (told ≡ Some Tells.Piece)
    × (new ≡ record old { client = new.client; piece = piece }))
    ⊎ ((old.watches ≡ false) × (told ≡ None) × (new ≡ record old { client = new.client }))))
    ⊎ ((error : WriteError)
    × Stream.RefusesWrite (data_refusal old.client.server.writing (length piece)) old.client error new.client
    × (told ≡ None) × (new ≡ record old { client = new.client; stage = At.Aborted }))

-- the end of the response is put to the client, or its connection is cut off
abbrev pub PassesEnd : GatewayRules → GatewayConnection → Entries FieldValue → GatewayConnection → Type 0
PassesEnd rules old trailers new =
    ((h : Heard) × (old.heard ≡ Some h)
    × ((EndsResponse rules.gateway h trailers old.client new.client
    × (new ≡ record old { client = new.client; stage = At.Ended }))
    ⊎ ((error : WriteError) × RefusesResponseEnd rules.gateway h trailers old.client error new.client
    × (new ≡ record old { client = new.client; stage = At.Aborted }))))
    ⊎ ((old.heard ≡ None) × (new ≡ record old { stage = At.Aborted }))

-- the response that ends HTTP is put to the client, or the gateway answers
abbrev pub SwitchesTo : GatewayConnection → OriginResponse → List Header → GatewayConnection → Type 0
SwitchesTo old response fields new =
    (PutsSwitch response fields old.client new.client
    × (new ≡ record old { client = new.client; stage = At.Switched }))
    ⊎ ((error : WriteError) × (client : StreamConnection) × RefusesSwitch response fields old.client error client
    × Fails (with_client old client) (Because.Unsendable error) new)

abbrev pub PassesSwitch : GatewayRules → ℕ → GatewayConnection → AskedRequest → OriginResponse → GatewayConnection
    → Type 0
PassesSwitch rules date old a response new =
    ((fields : List Header) × IsSwitched rules.gateway date a response fields × SwitchesTo old response fields new)
    ⊎ ((own : Own) × IsUnswitched rules.gateway a response own × Fails old own new)

-- the request of the exchange, which there is
abbrev pub OfAsked : GatewayConnection → (AskedRequest → Type 0) → (GatewayConnection) → Type 0
OfAsked old P new =
    ((a : AskedRequest) × (old.asked ≡ Some a) × P a)
    ⊎ ((old.asked ≡ None) × (new ≡ record old { stage = At.Aborted }))

abbrev pub MayRepeatIn : Option OriginConnection → Type 0
MayRepeatIn (Some origin) = Origin.MayRepeat origin
MayRepeatIn None = ⊥

-- nothing but the head of the request was passed on, no head of a response came, and it may be repeated by itself
abbrev pub MayRepeat : GatewayConnection → Type 0
MayRepeat m = (m.touched ≡ false) × (m.stage ≡ At.Forwarding) × MayRepeatIn m.origin

-- The origin's connection failed. The request is asked again if nothing but its head was passed on, and it may be
-- repeated.
abbrev pub Faulted : GatewayConnection → OriginFault → GatewayConnection → Type 0
Faulted old fault new =
    (MayRepeat old × (new ≡ record old { repeats = true; stage = At.Asking }))
    ⊎ (¬ (MayRepeat old) × Fails old (Because.Origin fault) new)

-- what becomes of what the origin's connection said
abbrev pub PassesDown : GatewayRules → ℕ → GatewayConnection → OriginEvent → Option GatewayEvent → GatewayConnection
    → Type 0
PassesDown rules date old Comes.NeedsInput told new = (told ≡ None) × (new ≡ record old { origin_hungry = true })
PassesDown rules date old (Comes.Interim response) told new =
    (told ≡ None) × OfAsked old (λ a. PassesInterim rules date old a response new) new
PassesDown rules date old (Comes.Head response) told new =
    (told ≡ None) × OfAsked old (λ a. PassesHead rules date old a response new) new
PassesDown rules date old (Comes.Content piece) told new = PassesPiece old piece told new
PassesDown rules date old (Comes.End trailers) told new = (told ≡ None) × PassesEnd rules old trailers new
PassesDown rules date old (Comes.Switched response) told new =
    (told ≡ None) × OfAsked old (λ a. PassesSwitch rules date old a response new) new
PassesDown rules date old Comes.Closed told new = (told ≡ None) × Fails old (Because.Origin Faults.CutShort) new
PassesDown rules date old (Comes.Broken fault) told new = (told ≡ None) × Faulted old fault new

abbrev pub with_origin : GatewayConnection → Option OriginConnection → GatewayConnection
with_origin m origin = record m { origin = origin }

abbrev pub HearsOrigin : GatewayRules → ℕ → GatewayConnection → Option GatewayEvent → GatewayConnection → Type 0
HearsOrigin rules date old told new = (event : OriginEvent) × (origin : Option OriginConnection)
    × SaysIn old.origin event origin × PassesDown rules date (with_origin old origin) event told new

-- ---- the caller's answers

-- where a connection goes on after a response: with the next request, if its client's connection does
abbrev pub IsNext : GatewayConnection → Stage → Type 0
IsNext m next = (Stream.GoesOn m.client × (next ≡ At.Idle)) ⊎ (¬ (Stream.GoesOn m.client) × (next ≡ At.Closed))

abbrev pub is_absent_content : ContentFraming → Bool
is_absent_content Absent = true
is_absent_content content = false

-- the response that waits has no content
abbrev pub is_absent : Option Heard → Bool
is_absent (Some h) = is_absent_content h.sent.content
is_absent None = false

-- a response without content that isn't passed on is read to its end, so that its connection may be fit
abbrev pub Settles : GatewayConnection → GatewayConnection → Type 0
Settles old new =
    ((is_absent old.heard ≡ false) × (new ≡ old))
    ⊎ ((is_absent old.heard ≡ true) × (event : OriginEvent) × SaysIn old.origin event new.origin
    × (new ≡ record old { origin = new.origin }))

abbrev pub IsAsking : GatewayConnection → Type 0
IsAsking m = (m.stage ≡ At.Asking) ⊎ (m.stage ≡ At.Judging)

-- the response that waits is dropped, and its request waits again, or is answered
abbrev pub Drops : GatewayConnection → GatewayConnection → Type 0
Drops old new =
    ((old.touched ≡ true) × Answers old (Because.Chosen 502) new)
    ⊎ ((old.touched ≡ false)
    × (new ≡ record old { heard = None; conditional = None; repeats = true; stage = At.Repeating }))

abbrev pub AsksAgain : GatewayConnection → GatewayConnection → Type 0
AsksAgain old new =
    ((old.stage ≢ At.Judging) × (new ≡ old))
    ⊎ ((old.stage ≡ At.Judging) × (between : GatewayConnection) × Settles old between × Drops between new)

-- a CONNECT is answered by 200, or by why that can't be sent
abbrev pub ConnectsAs : GatewayConnection → GatewayConnection → Type 0
ConnectsAs old new =
    (Stream.Switches old.client 200 (codes "OK") [] new.client
    × (new ≡ record old { client = new.client; stage = At.Switched }))
    ⊎ ((error : WriteError) × (client : StreamConnection)
    × Stream.RefusesWrite (upgrade_refusal old.client.server 200 (codes "OK") []) old.client error client
    × Answers (with_client old client) (Because.Unsendable error) new)

abbrev pub ConnectsNow : GatewayConnection → GatewayConnection → Type 0
ConnectsNow old new = (event : StreamEvent)
    × (client : StreamConnection) × Stream.Says old.client event client × ConnectsAs (with_client old client) new

abbrev pub Connects : GatewayConnection → GatewayConnection → Type 0
Connects old new = ((old.stage ≢ At.Asking) × (new ≡ old)) ⊎ ((old.stage ≡ At.Asking) × ConnectsNow old new)

-- the head of a response that the caller gives is put; that of the last says so
abbrev pub Gives : GatewayConnection → ℕ → List ℕ → List Header → BodySize → GatewayConnection → Type 0
Gives old status reason fields size new = IsAsking old × (client : StreamConnection)
    × Stream.Responds old.client status reason (closing old.is_last fields) size client × (between : GatewayConnection)
    × Settles (with_client old client) between × (new ≡ record between { stage = At.Giving })

abbrev pub RefusesGiving : GatewayConnection → ℕ → List ℕ → List Header → BodySize → WriteError → GatewayConnection
    → Type 0
RefusesGiving old status reason fields size error new =
    (¬ (IsAsking old) × (error ≡ Write.State) × (new ≡ old))
    ⊎ ((error ≡ Write.OutOfMemory) × (new ≡ old))
    ⊎ ChangesClient (λ before after. Stream.RefusesWrite (response_refusal before.server status reason size
    (closing old.is_last fields)) before error after) old new

-- its end is put
abbrev pub EndsGiving : GatewayConnection → List Header → GatewayConnection → Type 0
EndsGiving old trailers new = (old.stage ≡ At.Giving)
    × Stream.Ends old.client trailers new.client × (new ≡ record old { client = new.client; stage = At.Ended })

-- nothing of it is put
abbrev pub RefusesInGiving : Option WriteError → GatewayConnection → WriteError → GatewayConnection → Type 0
RefusesInGiving refusal old error new =
    ((old.stage ≢ At.Giving) × (error ≡ Write.State) × (new ≡ old))
    ⊎ ChangesClient (λ before after. Stream.RefusesWrite refusal before error after) old new

-- ---- time limits, and the end

-- the client's input is ended: a first part of a head is answered, and else the connection closes
abbrev pub EndsIdleAs : GatewayConnection → StreamEvent → GatewayConnection → Type 0
EndsIdleAs old (Is.Rejected why) new = Answers old Because.LateRequest new
EndsIdleAs old event new = new ≡ record old { stage = At.Closed }

abbrev pub EndsIdle : GatewayConnection → GatewayConnection → Type 0
EndsIdle old new = (ended : StreamConnection) × (event : StreamEvent) × (client : StreamConnection)
    × Stream.Finishes old.client ended × Stream.Says ended event client × EndsIdleAs (with_client old client) event new

-- what is done before a request, and before a response
abbrev pub idle_phase : Bool → Bool → ExchangePhase
idle_phase false begun = Does.Draining
idle_phase true true = Does.Head
idle_phase true false = Does.Idle

abbrev pub waiting_phase : Bool → ExchangePhase
waiting_phase true = Does.Response
waiting_phase false = Does.Content

-- what a connection is doing
abbrev pub phase_at : Stage → Bool → Bool → ExchangePhase
phase_at At.Idle whole begun = idle_phase whole begun
phase_at At.Asking whole begun = Does.Asking
phase_at At.Repeating whole begun = Does.Asking
phase_at At.Forwarding whole begun = waiting_phase whole
phase_at At.Judging whole begun = waiting_phase whole
phase_at At.Passing whole begun = Does.Passing
phase_at At.Ended whole begun = Does.Passing
phase_at At.Giving whole begun = Does.Giving
phase_at At.Switched whole begun = Does.Over
phase_at At.Closed whole begun = Does.Over
phase_at At.Aborted whole begun = Does.Over

abbrev pub phase_of : GatewayConnection → ExchangePhase
phase_of m = phase_at m.stage m.whole m.begun

-- what a time limit does, by what the connection is doing
abbrev pub TimesOutAt : ExchangePhase → GatewayConnection → GatewayConnection → Type 0
TimesOutAt Does.Idle old new = EndsIdle old new
TimesOutAt Does.Head old new = EndsIdle old new
TimesOutAt Does.Draining old new = new ≡ record old { stage = At.Closed }
TimesOutAt Does.Content old new = Answers old Because.LateRequest new
TimesOutAt Does.Asking old new = Answers old Because.LateResponse new
TimesOutAt Does.Response old new = Answers old Because.LateResponse new
TimesOutAt Does.Passing old new = new ≡ record old { stage = At.Aborted }
TimesOutAt Does.Giving old new = new ≡ record old { stage = At.Aborted }
TimesOutAt Does.Over old new = new ≡ old

abbrev pub TimesOut : GatewayConnection → GatewayConnection → Type 0
TimesOut old new = TimesOutAt (phase_of old) old new

-- nothing more is said
abbrev pub is_over : Stage → Bool
is_over At.Switched = true
is_over At.Closed = true
is_over At.Aborted = true
is_over stage = false

abbrev pub is_origin_open : Option OriginConnection → Bool
is_origin_open (Some origin) = not origin.ended
is_origin_open None = false

-- A side is read once all that came of it was used, and was passed on as far as less than 64 KiB waited.
abbrev pub wants_of : GatewayConnection → Wants
wants_of m = record {
  client_input = m.client_hungry && (not m.client.ended && not (is_over m.stage));
  client_output = not (is_empty m.client.output.items);
  origin_input = m.origin_hungry && (is_origin_open m.origin && not (is_over m.stage));
  origin_output = not (is_empty (output_of m.origin));
}

-- a message passes over both connections
abbrev pub is_passing : Stage → Bool
is_passing At.Forwarding = true
is_passing At.Judging = true
is_passing At.Passing = true
is_passing At.Switched = true
is_passing stage = false

abbrev pub OfFit : Option OriginConnection → Type 0
OfFit (Some origin) = Origin.IsFit origin
OfFit None = ⊥

-- the origin's connection is taken while no message passes, and given if it is fit
abbrev pub TakesOrigin : GatewayConnection → Option OriginConnection → GatewayConnection → Type 0
TakesOrigin old (Some origin) new = (is_passing old.stage ≡ false)
    × (old.origin ≡ Some origin) × Origin.IsFit origin × (new ≡ record old { origin = None; origin_hungry = false })
TakesOrigin old None new =
    ((is_passing old.stage ≡ true) × (new ≡ old))
    ⊎ ((is_passing old.stage ≡ false) × ¬ (OfFit old.origin)
    × (new ≡ record old { origin = None; origin_hungry = false }))

-- ---- steps

-- what came of the origin, if it was heard and the client takes more; or of the client, if its request isn't whole and
-- the origin takes more; or nothing
abbrev pub Transfers : GatewayRules → ℕ → GatewayConnection → Option GatewayEvent → GatewayConnection → Type 0
Transfers rules date old told new =
    (((old.origin_hungry ≡ false) × (length old.client.output.items < MOST_WAITING))
    × HearsOrigin rules date old told new)
    ⊎ (((old.whole ≡ false) × (old.client_hungry ≡ false) × (length (output_of old.origin) < MOST_WAITING))
    × (told ≡ None) × HearsClient rules old new)
    ⊎ ((told ≡ Some Tells.Waits) × (new ≡ old))

abbrev pub asks : Bool → GatewayEvent
asks true = Tells.Again
asks false = Tells.Request

-- what a step does at each stage
abbrev pub StepsAt : Stage → GatewayRules → ℕ → GatewayConnection → Option GatewayEvent → GatewayConnection → Type 0
StepsAt At.Idle rules date old told new = AwaitsRequest rules old told new
StepsAt At.Asking rules date old told new = (told ≡ Some (asks old.repeats)) × (new ≡ old)
StepsAt At.Forwarding rules date old told new = Transfers rules date old told new
StepsAt At.Passing rules date old told new = Transfers rules date old told new
StepsAt At.Judging rules date old told new = (told ≡ Some Tells.Response) × (new ≡ old)
StepsAt At.Giving rules date old told new = (told ≡ Some Tells.Waits) × (new ≡ old)
StepsAt At.Ended rules date old told new =
    (told ≡ Some Tells.Exchanged) × IsNext old new.stage × (new ≡ record old { stage = new.stage })
StepsAt At.Repeating rules date old told new = (told ≡ Some Tells.Exchanged) × (new ≡ record old { stage = At.Asking })
StepsAt At.Switched rules date old told new = (told ≡ Some Tells.Tunnel) × (new ≡ old)
StepsAt At.Closed rules date old told new = (told ≡ Some Tells.Closed) × (new ≡ old)
StepsAt At.Aborted rules date old told new = (told ≡ Some Tells.Aborted) × (new ≡ old)

abbrev pub Steps : GatewayRules → ℕ → GatewayConnection → Option GatewayEvent → GatewayConnection → Type 0
Steps rules date old told new = StepsAt old.stage rules date old told new

-- any number of steps that tell nothing
pub data Runs (rules : GatewayRules) (date : ℕ) (old : GatewayConnection) : GatewayConnection → Type 0 where
  Rests : Runs rules date old old
  Went : (between new : GatewayConnection) → Runs rules date old between → Steps rules date between None new
      → Runs rules date old new

-- steps that tell nothing, and one that tells this; or 2^64 - 1 steps that tell nothing
abbrev pub Says : GatewayRules → ℕ → GatewayConnection → GatewayEvent → GatewayConnection → Type 0
Says rules date old event new =
    (between : GatewayConnection) × Runs rules date old between
    × (Steps rules date between (Some event) new ⊎ ((event ≡ Tells.Waits) × (new ≡ between)))
