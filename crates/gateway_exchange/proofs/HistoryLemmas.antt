-- What is true after every history of calls.
use Rattle.std.proofs.Common.{◌≡◌, ◌⊎◌, ◌∷◌, ℕ, ◌≤◌, inl, inr, Bool, true, false, List, [], ◌++◌, length, take, min}
use Rattle.std.proofs.Common.{Option, Some, None, codes, sym, refl, ap, ◌∙◌, subst, arith, append-nil, append_assoc}
use Rattle.std.{proofs.{Common.not, lemmas.{List.Folds.concat-append, Bool.and_parts}}, specs.List.concat}
use Rattle.{std.specs.Prelude.{◌==◌, nat_le, nat_lt}, http_header.specs.{FieldValue.FieldValue, HeaderMap.Entries}}
use Rattle.http1.specs.{Fields.Header, declared.{conn.{BodySize.BodySize, Limits.Limits}, error.WriteError.WriteError}}
use Rattle.gateway_connection.specs.History as Origin
use Rattle.gateway_connection.specs.Steps as OriginSteps
use Rattle.gateway_connection.specs.declared.{origin.OriginConnection.OriginConnection, event.OriginEvent.OriginEvent}
use Rattle.gateway_connection.specs.declared.event.{OriginResponse.OriginResponse, OriginFault.OriginFault}
use Rattle.gateway_connection.{specs.Exchanges.Request, proofs.HistoryLemmas.{content_late, end_late, heads_once}}
use Rattle.gateway_connection.proofs.HistoryLemmas.{interim_late, says_final, switch_late}
use Rattle.http1.specs.Client as Http
use Rattle.gateway_messages.specs.Responses as Responses
use Rattle.gateway_exchange.specs.{Passing.{IsSwitched, answered, head_lines}, Decisions.IsDecision}
use Rattle.gateway_messages.specs.{Responses.{IsForwardedResponse, is_known_to}, declared.protocol.Protocol.Protocol}
use Rattle.gateway_messages.specs.declared.protocol.Protocol.TheVariants as Speaks
use Rattle.gateway_exchange.specs.Messages.{protocol_of}
use Rattle.server_stream.specs.Exchanges.{Answer, Bare, Begun, Exchange, Final, Response, Switched}
use Rattle.server_stream.specs.History as Stream
use Rattle.server_stream.specs.Steps as StreamSteps
use Rattle.server_stream.specs.declared.connection.StreamConnection.{StreamConnection}
use Rattle.server_stream.specs.declared.event.{StreamRequest.StreamRequest, StreamEvent.StreamEvent}
use Rattle.gateway_exchange.specs.History.{AreServed, HasHead, IsFor, IsGiven, IsHeard, IsIn, IsPassedOn, AreFieldsOf}
use Rattle.gateway_exchange.specs.History.{Added, Addition, AreAdded, IsForwarded}
use Rattle.gateway_exchange.specs.History.{AreInterim, AreInterimNow, IsInterim, IsSwitch, own_interim, EndsAs}
use Rattle.gateway_exchange.specs.History.{GivenHead, IsDecided, IsFrontOf, IsServedNow, Served, Traffic, Uses}
use Rattle.gateway_exchange.specs.History.{WentOver, head_of, on_last, receives, traffic_of, writes}
use Rattle.gateway_exchange.specs.History.{written_of, IsReached, OriginIn, Past, Opened, Received, Finished, Written}
use Rattle.gateway_exchange.specs.History.{OriginReceived, OriginFinished, OriginWritten, Said, Sent, Conditioned}
use Rattle.gateway_exchange.specs.History.{Answered, Again, Connected, Given, GivenPiece, GivenEnd, NotGiven, NotBegun}
use Rattle.gateway_exchange.specs.{History.{Passed, TimedOut, Taken, Dated, Closing}, Own.{PutsOwn, RefusesOwn}}
use Rattle.gateway_exchange.specs.{Own.{closing, own_fields, own_status}, Passing.{EndsResponse, PutsRequest}}
use Rattle.gateway_exchange.specs.{Passing.{RefusesRequestEnd, RefusesResponseEnd}, Steps.{Answers, AsksAgain, Awaits}}
use Rattle.gateway_exchange.specs.Steps.{Begins, BeginsAt, ChangesOrigin, IsNext, PutsContent, PutsRequestEnd}
use Rattle.gateway_exchange.specs.Steps.{is_origin_open, is_passing, Conditions, Connects, ConnectsAs, Considers}
use Rattle.gateway_exchange.specs.Steps.{ContinuesIf, EndsIdle, EndsIdleAs, EndsIf, Follows, EndsGiving, Fails, Faulted}
use Rattle.gateway_exchange.specs.Steps.{Gives, HandsOutOrigin, OnOrigin, Passes, PassesDown, PassesHead, PassesInterim}
use Rattle.gateway_exchange.specs.Steps.{PassesPiece, PassesSwitch, PassesUp, PutsHead, ReceivesOrigin, RefusesBegin}
use Rattle.gateway_exchange.specs.Steps.{RefusesBeginAt, RefusesContent, RefusesEnd, RefusesGiving, RefusesInGiving}
use Rattle.gateway_exchange.specs.Steps.{Rests, Runs, Went, Says, SaysIn, Sends, Settles, Steps, StepsAt, TakesOrigin}
use Rattle.gateway_exchange.specs.Steps.{TellsHead, TimesOutAt, Transfers, begun, phase_of, sent_fields, taking}
use Rattle.gateway_exchange.specs.Steps.{Adds, with_client, with_origin}
use Rattle.gateway_exchange.specs.declared.connection.{GatewayConnection.GatewayConnection, Stage.Stage}
use Rattle.gateway_exchange.specs.declared.decision.{AskedRequest.AskedRequest, RequestDecision.RequestDecision}
use Rattle.gateway_exchange.specs.declared.event.{GatewayEvent.GatewayEvent, ExchangePhase.ExchangePhase}
use Rattle.gateway_exchange.specs.declared.{date.OwnDate.OwnDate, own.Own.Own, pass.Heard.Heard, rules.Peer.Peer}
use Rattle.{gateway_exchange.specs.declared.rules.GatewayRules.GatewayRules, http1_typed.specs.Parts.reason_of}
use Rattle.{http1.specs.declared.conn.BodySize.TheVariants.Known, gateway_messages.specs.FieldLines.fields_of}
use Rattle.gateway_messages.specs.declared.{gateway.Gateway.Gateway, response.ForwardedResponse.ForwardedResponse}
use Rattle.gateway_exchange.specs.Messages.{request_size, response_size}
use Rattle.gateway_connection.specs.declared.event.OriginEvent.TheVariants as Comes
use Rattle.gateway_connection.specs.declared.event.OriginFault.TheVariants as Faults
use Rattle.gateway_exchange.specs.declared.event.GatewayEvent.TheVariants as Tells
use Rattle.gateway_exchange.specs.declared.own.Own.TheVariants as Because
use Rattle.gateway_exchange.specs.declared.connection.Stage.TheVariants as At
use Rattle.gateway_exchange.specs.declared.decision.RequestDecision.TheVariants as Decides
use Rattle.gateway_exchange.specs.declared.event.ExchangePhase.TheVariants as Does
use Rattle.server_stream.specs.declared.event.StreamEvent.TheVariants as Is
use Rattle.gateway_exchange.specs.{History.{now_of}, Steps.{FinishesClient}}

-- ---- what was told and put

-- no byte is received or written by what is said
reject_same : (h : Stream.Heard) (p : Stream.Past)
    → ((Stream.reject_at h p).received ≡ p.received) × ((Stream.reject_at h p).sent ≡ p.sent)
reject_same (Stream.Whole head content trailers) p = (refl, refl)
reject_same h p = (refl, refl)

tell_same : (event : StreamEvent) (p : Stream.Past)
    → ((Stream.tell event p).received ≡ p.received) × ((Stream.tell event p).sent ≡ p.sent)
tell_same (Is.Rejected why) p = reject_same p.heard p
tell_same event p = (refl, refl)

content_head : (piece : List ℕ) (heard : Stream.Heard) → head_of (Stream.with_content piece heard) ≡ head_of heard
content_head piece Stream.Nothing = refl
content_head piece heard = refl

end_head : (trailers : Entries FieldValue) (heard : Stream.Heard)
    → head_of (Stream.with_end trailers heard) ≡ head_of heard
end_head trailers Stream.Nothing = refl
end_head trailers heard = refl

-- ---- the exchange now

-- what the origin's connection told of the response: nothing, or its head and this content
data Told : Type 0 where
  Silent : Told
  Telling : OriginResponse → List ℕ → Told

abbrev now_in : Told → Request → List OriginResponse → Origin.Now
now_in Silent request interim = Origin.Asked request interim
now_in (Telling response content) request interim = Origin.Hears request interim response content

-- the request was sent to the origin, whose connection told this of its response
record Carries (origin : Option OriginConnection) (now : Origin.Now) (a : AskedRequest) (t : Told) : Type 0 where
  connection : OriginConnection
  is : origin ≡ Some connection
  request : Request
  sends : IsFor a request
  interim : List OriginResponse
  told : now ≡ now_in t request interim

carries_on : {old new : Option OriginConnection} {now : Origin.Now} {a : AskedRequest} {t next : Told}
    (g : Origin.Now → Origin.Now) (after : OriginConnection) → new ≡ Some after → (c : Carries old now a t)
    (request : Request) (interim : List OriginResponse) → IsFor a request
    → g (now_in t c.request c.interim) ≡ now_in next request interim → Carries new (g now) a next
carries_on g after is c request interim sends turns = record {
  connection = after;
  is = is;
  request = request;
  sends = sends;
  interim = interim;
  told = ap g c.told ∙ turns;
}

-- what an exchange is made of
record Parts : Type 0 where
  asked : Option AskedRequest
  fields : AskedRequest → List Header
  heard : Option Heard
  origin : Option OriginConnection
  head : Option StreamRequest
  final : Final
  now : Origin.Now

abbrev parts_of : GatewayConnection → Stream.Past → Origin.Past → Parts
parts_of m p o = record {
  asked = m.asked;
  fields = sent_fields m;
  heard = m.heard;
  origin = m.origin;
  head = head_of p.heard;
  final = p.answer.final;
  now = o.now;
}

-- the response that is put, as far as it is
record Shows (final : Final) (h : Heard) : Type 0 where
  content : List ℕ
  response : Response
  is : final ≡ Begun response
  whole : response.trailers ≡ None
  puts : HasHead h content response

module _ (uses : Uses) where
  -- this request was told of the client, and may be sent
  record IsAsked (asked : Option AskedRequest) (head : Option StreamRequest) (a : AskedRequest) : Type 0 where
    is : asked ≡ Some a
    head_is : head ≡ Some a.head
    decided : IsDecided uses a

  -- a request waits
  record Waiting (asked : Option AskedRequest) (fields : AskedRequest → List Header) (head : Option StreamRequest)
      : Type 0 where
    a : AskedRequest
    asked_is : IsAsked asked head a
    are : AreFieldsOf a (fields a)

  -- the head of its response came
  record Judged (asked : Option AskedRequest) (head : Option StreamRequest) (heard : Option Heard) : Type 0 where
    a : AskedRequest
    asked_is : IsAsked asked head a
    h : Heard
    is : heard ≡ Some h
    forwarded : IsHeard uses a h

  abbrev TiedAt : Stage → Parts → Type 0
  TiedAt At.Asking v = Waiting v.asked v.fields v.head
  TiedAt At.Repeating v = Waiting v.asked v.fields v.head
  TiedAt At.Forwarding v = (w : Waiting v.asked v.fields v.head) × Carries v.origin v.now w.a Silent
  TiedAt At.Judging v = (j : Judged v.asked v.head v.heard) × Carries v.origin v.now j.a (Telling j.h.response [])
  TiedAt At.Passing v = (j : Judged v.asked v.head v.heard)
      × (s : Shows v.final j.h) × Carries v.origin v.now j.a (Telling j.h.response s.content)
  TiedAt At.Giving v = (response : Response) × (v.final ≡ Begun response) × IsGiven uses response
  TiedAt stage v = Unit {0}

  -- the origin's connection goes on, and what it told
  tied_on : (stage : Stage) (v : Parts) (origin : Option OriginConnection) (now : Origin.Now)
      → ((a : AskedRequest) (t : Told) → Carries v.origin v.now a t → Carries origin now a t) → TiedAt stage v
      → TiedAt stage (record v { origin = origin; now = now })
  tied_on At.Forwarding v origin now carry x = (x.0, carry x.0.a Silent x.1)
  tied_on At.Judging v origin now carry x = (x.0, carry x.0.a (Telling x.0.h.response []) x.1)
  tied_on At.Passing v origin now carry x = (x.0, x.1, carry x.0.a (Telling x.0.h.response x.1.content) x.2)
  tied_on stage v origin now carry x = x

  -- it is taken while none is needed
  tied_without : (stage : Stage) (v : Parts) → is_passing stage ≡ false → TiedAt stage v
      → TiedAt stage (record v { origin = None })
  tied_without At.Forwarding v still x = absurd (cc)
  tied_without At.Judging v still x = absurd (cc)
  tied_without At.Passing v still x = absurd (cc)
  tied_without stage v still x = x

  -- other fields are sent of the request that waits
  tied_as : (stage : Stage) (v : Parts) (fields : AskedRequest → List Header) → ((a : AskedRequest)
      → v.asked ≡ Some a → AreFieldsOf a (fields a)) → TiedAt stage v → TiedAt stage (record v { fields = fields })
  tied_as At.Asking v fields are x = record { a = x.a; asked_is = x.asked_is; are = are x.a x.asked_is.is }
  tied_as At.Repeating v fields are x = record { a = x.a; asked_is = x.asked_is; are = are x.a x.asked_is.is }
  tied_as At.Forwarding v fields are x =
      (record { a = x.0.a; asked_is = x.0.asked_is; are = are x.0.a x.0.asked_is.is }, x.1)
  tied_as stage v fields are x = x

module _ (limits : Limits) (uses : Uses) (lines : List Traffic) where
  -- ---- the responses

  all_append : (es later : List Exchange) → AreServed limits uses es → AreServed limits uses later
      → AreServed limits uses (es ++ later)
  all_append [] later before after = after
  all_append (e ∷ es) later before after = (before.0, before.1, all_append es later before.2 after)

  over_with_served : (head : StreamRequest) (content : List ℕ) (trailers : Entries FieldValue) (interim : List Bare)
      (final : Final) → AreInterim limits uses head interim → IsServedNow limits uses (Some head) final
      → AreServed limits uses (Stream.over_with head content trailers interim final)
  over_with_served head content trailers interim (Begun r) first served = (served, first, tt)
  over_with_served head content trailers interim final first served = tt

  over_served : (heard : Stream.Heard) (a : Answer) → AreInterimNow limits uses (head_of heard) a.interim
      → IsServedNow limits uses (head_of heard) a.final → AreServed limits uses (Stream.over heard a)
  over_served (Stream.Whole head content trailers) a first served =
      over_with_served head content trailers a.interim a.final first served
  over_served heard a first served = tt

  -- the responses up to the one now
  before_next : (p : Stream.Past) → Served limits uses p
      → AreServed limits uses (p.before ++ Stream.over p.heard p.answer)
  before_next p served = all_append p.before _ served.before (over_served p.heard p.answer served.interim served.now)

  reject_served : (heard : Stream.Heard) (p : Stream.Past) → Served limits uses p
      → Served limits uses (Stream.reject_at heard p)
  reject_served (Stream.Whole head content trailers) p served =
      record { before = before_next p served; interim = tt; now = tt }
  reject_served heard p served = served

  -- more of the same request was told
  heard_served : (heard : Stream.Heard) (p : Stream.Past) → head_of heard ≡ head_of p.heard → Served limits uses p
      → Served limits uses (record p { heard = heard })
  heard_served heard p same served = record {
    before = served.before;
    interim = subst (λ (head : Option StreamRequest). AreInterimNow limits uses head p.answer.interim) (sym same)
        served.interim;
    now = subst (λ (head : Option StreamRequest). IsServedNow limits uses head p.answer.final) (sym same) served.now;
  }

  tell_served : (event : StreamEvent) (p : Stream.Past) → Served limits uses p
      → Served limits uses (Stream.tell event p)
  tell_served (Is.Head head) p served = record { before = before_next p served; interim = tt; now = tt }
  tell_served (Is.Content piece) p served =
      heard_served (Stream.with_content piece p.heard) p (content_head piece p.heard) served
  tell_served (Is.End trailers) p served =
      heard_served (Stream.with_end trailers p.heard) p (end_head trailers p.heard) served
  tell_served (Is.Rejected why) p served = reject_served p.heard p served
  tell_served event p served = served

  interim_append : (head : StreamRequest) (interim : List Bare) (b : Bare) → AreInterim limits uses head interim
      → IsInterim limits uses head b → AreInterim limits uses head (interim ++ b ∷ [])
  interim_append head [] b before is = (is, tt)
  interim_append head (first ∷ later) b before is = (before.0, interim_append head later b before.1 is)

  interim_more : (head : Option StreamRequest) (interim : List Bare) (b : Bare) → AreInterimNow limits uses head interim
      → ((asked : StreamRequest) → head ≡ Some asked → IsInterim limits uses asked b)
      → AreInterimNow limits uses head (interim ++ b ∷ [])
  interim_more (Some head) interim b before is = interim_append head interim b before (is head refl)
  interim_more None interim b before is = tt

  informed_served : (b : Bare) (p : Stream.Past) → Served limits uses p → ((asked : StreamRequest)
      → head_of p.heard ≡ Some asked → IsInterim limits uses asked b) → Served limits uses (Stream.informs b p)
  informed_served b p s is = record {
    before = s.before;
    interim = interim_more (head_of p.heard) p.answer.interim b s.interim is;
    now = s.now;
  }

  now_is : (head : Option StreamRequest) (final : Final) → ((asked : StreamRequest)
      → head ≡ Some asked → IsServedNow limits uses (Some asked) final) → IsServedNow limits uses head final
  now_is (Some head) final is = is head refl
  now_is None final is = tt

  -- a final response is put
  put_served : (final : Final) (p : Stream.Past) → Served limits uses p → ((asked : StreamRequest) → head_of
      p.heard ≡ Some asked → IsServedNow limits uses (Some asked) final) → Served limits uses (Stream.answers final p)
  put_served final p s is = record { before = s.before; interim = s.interim; now = now_is (head_of p.heard) final is }

  -- the request now is this one
  put_for : (asked : StreamRequest) (final : Final) (p : Stream.Past) → Served limits uses p → head_of
      p.heard ≡ Some asked → IsServedNow limits uses (Some asked) final → Served limits uses (Stream.answers final p)
  put_for asked final p s is now = record {
    before = s.before;
    interim = s.interim;
    now = subst (λ (head : Option StreamRequest). IsServedNow limits uses head final) (sym is) now;
  }

  -- the final response goes on
  on_served : (f : Response → Response) (r : Response) (p : Stream.Past) → p.answer.final ≡ Begun r → Served limits uses
      (Stream.answers (Begun (f r)) p) → Served limits uses (Stream.answers (Stream.change f p.answer.final) p)
  on_served f r p is s =
      subst (λ (final : Final). Served limits uses (Stream.answers final p)) (sym (ap (Stream.change f) is)) s

  -- ---- the client's connection

  -- it was reached, and no byte was received or written since
  abbrev ClientAfter : StreamConnection → Stream.Past → Type 0
  ClientAfter m p = (q : Stream.Past)
      × Stream.IsReached limits m q × Served limits uses q × (q.received ≡ p.received) × (q.sent ≡ p.sent)

  -- calls of its own lead from one state to the other
  abbrev ClientGoes : StreamConnection → StreamConnection → Type 0
  ClientGoes old new = (p : Stream.Past) → Stream.IsReached limits old p → Served limits uses p → ClientAfter new p

  client_same : {old new : StreamConnection} → new ≡ old → ClientGoes old new
  client_same same = λ p r s.
      (p, subst (λ (m : StreamConnection). Stream.IsReached limits m p) (sym same) r, s, refl, refl)

  client_then : {a b c : StreamConnection} → ClientGoes a b → ClientGoes b c → ClientGoes a c
  client_then f g = λ p r s. let x = f p r s in let y = g x.0 x.1 x.2 in (y.0, y.1, y.2, y.3 ∙ x.3, y.4 ∙ x.4)

  abbrev client_says : (old new : StreamConnection) (event : StreamEvent) → StreamSteps.Says old event new
      → ClientGoes old new
  client_says old new event says = λ p r s. (
    Stream.tell event p,
    Stream.Said old new p event r says,
    tell_served event p s,
    (tell_same event p).0,
    (tell_same event p).1,
  )

  abbrev client_continues : (old new : StreamConnection) → StreamSteps.Informs old 100 (codes "Continue") [] new
      → ClientGoes old new
  client_continues old new informs = λ p r s. (
    Stream.informs own_interim p,
    Stream.Informed old new p 100 (codes "Continue") [] r informs,
    informed_served own_interim p s (λ head is. inl refl),
    refl,
    refl,
  )

  client_connects : (old new : StreamConnection) → StreamSteps.Switches old 200 (codes "OK") [] new → ClientGoes old new
  client_connects old new switches = λ p r s.
      let b : Bare = record { minor = old.server.request.minor; status = 200; reason = codes "OK"; headers = [] } in (
        Stream.answers (Switched b) p,
        Stream.Handed old new p 200 (codes "OK") [] r switches,
        put_served (Switched b) p s (λ head is. inl (refl, refl, refl)),
        refl,
        refl,
      )

  abbrev client_finishes : (old new : StreamConnection) → StreamSteps.Finishes old new → ClientGoes old new
  client_finishes old new is = λ p r s. (p, Stream.Finished old new p r is, s, refl, refl)

  abbrev client_refuses : (old new : StreamConnection) → StreamSteps.PutsNothing old new → ClientGoes old new
  client_refuses old new nothing = λ p r s. (p, Stream.Refused old new p r nothing, s, refl, refl)

  -- memory ran out, or nothing is put
  client_fails : {A B : Type 0} (old new : StreamConnection)
      → ((new ≡ old) × A) ⊎ (StreamSteps.PutsNothing old new × B) → ClientGoes old new
  client_fails old new (inl h) = client_same h.0
  client_fails old new (inr h) = client_refuses old new h.0

  -- the gateway's own response, as far as it is put
  abbrev own_response : Bool → Option OwnDate → StreamConnection → Own → Option (List Header) → Response
  own_response is_last date m own trailers =
      let begun : Response =
      Stream.begins m.server (own_status own) (reason_of (own_status own)) (own_fields is_last date own) (Known 0) in
      record begun { trailers = trailers }

  own_served : (is_last : Bool) (date : Option OwnDate) (m : StreamConnection) (own : Own)
      (trailers : Option (List Header)) (p : Stream.Past) → Served limits uses p
      → Served limits uses (Stream.answers (Begun (own_response is_last date m own trailers)) p)
  own_served is_last date m own trailers p s = put_served (Begun (own_response is_last date m own trailers)) p s
      (λ head is. inl (own, is_last, date, refl, refl, refl, refl, refl))

  own_begins : (is_last : Bool) (date : Option OwnDate) (old new : StreamConnection) (own : Own) → StreamSteps.Responds
      old (own_status own) (reason_of (own_status own)) (own_fields is_last date own) (Known 0) new → ClientGoes old new
  own_begins is_last date old new own responds = λ p r s. (
    Stream.answers (Begun (own_response is_last date old own None)) p,
    Stream.Responded old new p (own_status own) (reason_of (own_status own)) (own_fields is_last date own) (Known 0) r
        responds,
    own_served is_last date old own None p s,
    refl,
    refl,
  )

  own_goes : (is_last : Bool) (date : Option OwnDate) (old new : StreamConnection) (own : Own)
      → PutsOwn is_last date old own new → ClientGoes old new
  own_goes is_last date old new own h = λ p r s. (
    Stream.answers (Begun (own_response is_last date old own (Some []))) p,
    Stream.Ended h.0 new (Stream.answers (Begun (own_response is_last date old own None)) p) [] (Stream.Responded
        old h.0 p (own_status own) (reason_of (own_status own)) (own_fields is_last date own) (Known 0) r h.1) h.2,
    own_served is_last date old own (Some []) p s,
    refl,
    refl,
  )

  own_fails : (is_last : Bool) (date : Option OwnDate) (old new : StreamConnection) (own : Own) (error : WriteError)
      → RefusesOwn is_last date old own error new → ClientGoes old new
  own_fails is_last date old new own error (inl h) = client_refuses old new h.0
  own_fails is_last date old new own error (inr h) =
      client_then (own_begins is_last date old h.0 own h.1) (client_refuses h.0 new h.2.0)

  -- ---- both connections

  -- the origin's connection, if there is one, was reached, and is the last that was handed in
  abbrev Origins : Option OriginConnection → Origin.Past → Type 0
  Origins (Some m) o = Origin.IsReached limits m o
      × (WentOver (traffic_of o) uses.traffic × (older : List Traffic) × (lines ≡ traffic_of o ∷ older))
  Origins None o = Unit {0}

  -- the parts were reached by calls of their own
  abbrev Loose : GatewayConnection → Stream.Past → Origin.Past → Type 0
  Loose m p o = (m.peer ≡ uses.peer) × Stream.IsReached limits m.client p × Served limits uses p × Origins m.origin o

  -- and what they told is of one exchange
  abbrev Held : GatewayConnection → Stream.Past → Origin.Past → Type 0
  Held m p o = Loose m p o × TiedAt uses m.stage (parts_of m p o)

  -- and no byte of the client was received or written since
  abbrev Since : (Stream.Past → Origin.Past → Type 0) → Stream.Past → Type 0
  Since P p = (q : Stream.Past) × (n : Origin.Past) × P q n × (q.received ≡ p.received) × (q.sent ≡ p.sent)

  since_then : (P Q : Stream.Past → Origin.Past → Type 0) (p : Stream.Past) → Since P p
      → ((q : Stream.Past) (n : Origin.Past) → P q n → Since Q q) → Since Q p
  since_then P Q p x f = let y = f x.0 x.1 x.2 in (y.0, y.1, y.2, y.3 ∙ x.3, y.4 ∙ x.4)

  record Goes (old new : GatewayConnection) : Type 0 where
    step : (p : Stream.Past) (o : Origin.Past) → Loose old p o → Since (Loose new) p

  -- the exchange is over, or is another one
  record Ends (old new : GatewayConnection) : Type 0 where
    step : (p : Stream.Past) (o : Origin.Past) → Loose old p o → Since (Held new) p

  record Leads (old new : GatewayConnection) : Type 0 where
    step : (p : Stream.Past) (o : Origin.Past) → Held old p o → Since (Held new) p

  goes_then : {a b c : GatewayConnection} → Goes a b → Goes b c → Goes a c
  goes_then {a} {b} {c} f g = record { step = λ p o x. since_then (Loose b) (Loose c) p (f.step p o x) g.step }

  goes_end : {a b c : GatewayConnection} → Goes a b → Ends b c → Ends a c
  goes_end {a} {b} {c} f g = record { step = λ p o x. since_then (Loose b) (Held c) p (f.step p o x) g.step }

  leads_then : {a b c : GatewayConnection} → Leads a b → Leads b c → Leads a c
  leads_then {a} {b} {c} f g = record { step = λ p o h. since_then (Held b) (Held c) p (f.step p o h) g.step }

  freely : {old new : GatewayConnection} → Ends old new → Leads old new
  freely e = record { step = λ p o h. e.step p o h.0 }

  -- the new state is this one
  after : {new now : GatewayConnection} (p : Stream.Past) → new ≡ now → Since (Held now) p → Since (Held new) p
  after p is x = subst (λ (m : GatewayConnection). Since (Held m) p) (sym is) x

  kept : {old new now : GatewayConnection} → new ≡ now
      → ((p : Stream.Past) (o : Origin.Past) → Loose old p o → Loose now p o) → Goes old new
  kept {old} is same = subst (λ (m : GatewayConnection). Goes old m) (sym is)
      (record { step = λ p o x. (p, o, same p o x, refl, refl) })

  ends : {old new now : GatewayConnection} → new ≡ now
      → ((p : Stream.Past) (o : Origin.Past) → Loose old p o → Held now p o) → Ends old new
  ends is same = record { step = λ p o x. after p is (p, o, same p o x, refl, refl) }

  stays : {old new now : GatewayConnection} → new ≡ now
      → ((p : Stream.Past) (o : Origin.Past) → Held old p o → Held now p o) → Leads old new
  stays is same = record { step = λ p o h. after p is (p, o, same p o h, refl, refl) }

  unchanged : {old new : GatewayConnection} → new ≡ old → Leads old new
  unchanged is = stays is (λ p o h. h)

  tied_at : (m : GatewayConnection) (p : Stream.Past) (o : Origin.Past) (stage : Stage) → m.stage ≡ stage → Held m p o
      → TiedAt uses stage (parts_of m p o)
  tied_at m p o stage is h = subst (λ (s : Stage). TiedAt uses s (parts_of m p o)) is h.1

  -- the client's connection alone goes
  client_alone : (old : GatewayConnection) (client : StreamConnection) → ClientGoes old.client client
      → Goes old (with_client old client)
  client_alone old client goes = record {
    step = λ p o x. let y = goes p x.1 x.2 in (y.0, o, (x.0, y.1, y.2, x.3), y.3, y.4);
  }

  heard_client : (old : GatewayConnection) (client : StreamConnection) (event : StreamEvent)
      → StreamSteps.Says old.client event client → Goes old (with_client old client)
  heard_client old client event says = client_alone old client (client_says old.client client event says)

  -- and what was told and put of the exchange stays as it is
  client_leads : (old : GatewayConnection) (client : StreamConnection) (goes : ClientGoes old.client client)
      → ((p : Stream.Past) (r : Stream.IsReached limits old.client p) (s : Served limits uses p)
      → (head_of (goes p r s).0.heard ≡ head_of p.heard) × ((goes p r s).0.answer.final ≡ p.answer.final))
      → Leads old (with_client old client)
  client_leads old client goes keeps = record {
    step = λ p o h.
        let y = goes p h.0.1 h.0.2 in
        let k = keeps p h.0.1 h.0.2 in
        let v : Parts = parts_of old p o in
        let headed = subst (λ (head : Option StreamRequest). TiedAt uses old.stage (record v { head = head }))
        (sym k.0) h.1 in
        let tied = subst (λ (final : Final). TiedAt uses old.stage (record v {
          head = head_of y.0.heard;
          final = final;
        })) (sym k.1) headed in
        (y.0, o, ((h.0.0, y.1, y.2, h.0.3), tied), y.3, y.4);
  }

  -- the origin's connection alone goes, by which what it told becomes this
  origin_goes : (g : Origin.Now → Origin.Now) (old : GatewayConnection) (origin : Option OriginConnection)
      → ((o : Origin.Past) → Origins old.origin o → Origins origin (record o { now = g o.now }))
      → Goes old (with_origin old origin)
  origin_goes g old origin goes = record {
    step = λ p o x. (p, record o { now = g o.now }, (x.0, x.1, x.2, goes o x.3), refl, refl);
  }

  origin_held : (g : Origin.Now → Origin.Now) (old : GatewayConnection) (origin : Option OriginConnection)
      → ((o : Origin.Past) → Origins old.origin o → Origins origin (record o { now = g o.now })) → (p : Stream.Past)
      (o : Origin.Past) → ((a : AskedRequest) (t : Told) → Carries old.origin o.now a t → Carries origin (g o.now) a t)
      → Held old p o → Held (with_origin old origin) p (record o { now = g o.now })
  origin_held g old origin goes p o carry h = (
    (h.0.0, h.0.1, h.0.2, goes o h.0.3),
    tied_on uses old.stage (parts_of old p o) origin (g o.now) carry h.1,
  )

  -- a step of the connection that there is
  origin_at : (g : Origin.Now → Origin.Now) (old : Option OriginConnection) (before after : OriginConnection)
      → old ≡ Some before → ((o : Origin.Past)
      → Origin.IsReached limits before o → Origin.IsReached limits after (record o { now = g o.now }))
      → (o : Origin.Past) → Origins old o → Origins (Some after) (record o { now = g o.now })
  origin_at g old before after is step o x =
      let y = subst (λ (m : Option OriginConnection). Origins m o) is x in (step o y.0, y.1)

  -- nothing is put to it
  origin_refuses : (old : GatewayConnection) (before after : OriginConnection) → old.origin ≡ Some before
      → OriginSteps.PutsNothing before after → Goes old (with_origin old (Some after))
  origin_refuses old before after is nothing = origin_goes (λ now. now) old
      (Some after) (origin_at (λ now. now) old.origin before after is (λ o r. Origin.Refused before after o r nothing))

  origin_says : (old new : Option OriginConnection) (event : OriginEvent) → SaysIn old event new → (o : Origin.Past)
      → Origins old o → Origins new (record o { now = Origin.tell event o.now })
  origin_says (Some old) (Some new) event says o x = (Origin.Said old new o event x.0 says, x.1)
  origin_says None None event says o x = tt
  origin_says old new event says o x = absurd says

  heard_origin : (old : GatewayConnection) (origin : Option OriginConnection) (event : OriginEvent)
      → SaysIn old.origin event origin → Goes old (with_origin old origin)
  heard_origin old origin event says =
      origin_goes (Origin.tell event) old origin (origin_says old.origin origin event says)

  -- ---- answers

  answers_with : (old between new : GatewayConnection) (own : Own) (heard : Option Heard) → Answers old own between
      → new ≡ record between { heard = heard } → Ends old new
  answers_with old between new own heard (inl h) last =
      goes_end (client_alone old between.client (own_goes old.is_last old.date old.client between.client own h.0))
      (ends (last ∙ ap (λ (m : GatewayConnection). record m { heard = heard }) h.1) (λ p o x. (x, tt)))
  answers_with old between new own heard (inr h) last =
      goes_end (client_alone old between.client (own_fails old.is_last old.date old.client between.client own h.0 h.1))
      (ends (last ∙ ap (λ (m : GatewayConnection). record m { heard = heard }) h.2) (λ p o x. (x, tt)))

  answers : (old new : GatewayConnection) (own : Own) → Answers old own new → Ends old new
  answers old new own h = answers_with old new new own new.heard h refl

  -- after a change of the client's connection
  answers_after : (old new : GatewayConnection) (client : StreamConnection) (own : Own) → ClientGoes old.client client
      → Answers (with_client old client) own new → Ends old new
  answers_after old new client own goes h =
      goes_end (client_alone old client goes) (answers (with_client old client) new own h)

  fails : (old new : GatewayConnection) (own : Own) → Fails old own new → Ends old new
  fails old new own (inl h) = ends h.1 (λ p o x. (x, tt))
  fails old new own (inr h) = answers old new own h.1

  fails_after : (old new : GatewayConnection) (client : StreamConnection) (own : Own) → ClientGoes old.client client
      → Fails (with_client old client) own new → Ends old new
  fails_after old new client own goes h =
      goes_end (client_alone old client goes) (fails (with_client old client) new own h)

  -- ---- what the client said

  hears_nothing : (old : GatewayConnection) (client : StreamConnection)
      → StreamSteps.Says old.client Is.NeedsInput client → Leads old (with_client old client)
  hears_nothing old client says =
      client_leads old client (client_says old.client client Is.NeedsInput says) (λ p r s. (refl, refl))

  hears_content : (old : GatewayConnection) (client : StreamConnection) (piece : List ℕ)
      → StreamSteps.Says old.client (Is.Content piece) client → Leads old (with_client old client)
  hears_content old client piece says = client_leads old client
      (client_says old.client client (Is.Content piece) says) (λ p r s. (content_head piece p.heard, refl))

  hears_end : (old : GatewayConnection) (client : StreamConnection) (trailers : Entries FieldValue)
      → StreamSteps.Says old.client (Is.End trailers) client → Leads old (with_client old client)
  hears_end old client trailers says = client_leads old client
      (client_says old.client client (Is.End trailers) says) (λ p r s. (end_head trailers p.heard, refl))

  change_in : (f : Request → Request) (t : Told) (r : Request) (interim : List OriginResponse)
      → Origin.change f (now_in t r interim) ≡ now_in t (f r) interim
  change_in f Silent r interim = refl
  change_in f (Telling response content) r interim = refl

  -- the request goes on
  puts_on : (f : Request → Request) (old : GatewayConnection) (before after : OriginConnection)
      → old.origin ≡ Some before → ((o : Origin.Past)
      → Origin.IsReached limits before o → Origin.IsReached limits after (record o { now = Origin.change f o.now }))
      → ((a : AskedRequest) (r : Request) → IsFor a r → IsFor a (f r)) → Leads old (with_origin old (Some after))
  puts_on f old before after is step sends = record {
    step = λ p o h. (
      p,
      record o { now = Origin.change f o.now },
      origin_held (Origin.change f) old (Some after) (origin_at (Origin.change f) old.origin before after is step) p o
          (λ a t c. carries_on (Origin.change f) after refl c
          (f c.request) c.interim (sends a c.request c.sends) (change_in f t c.request c.interim)) h,
      refl,
      refl,
    );
  }

  puts_content : (old new : GatewayConnection) (piece : List ℕ) → PutsContent old piece new → Leads old new
  puts_content old new piece h = leads_then (puts_on (Origin.with_piece piece) old h.0 h.1 h.2
      (λ o r. Origin.Put h.0 h.1 o piece r h.3) (λ a r is. is)) (stays h.4 (λ p o x. x))

  puts_request_end : (rules : GatewayRules) (old new : GatewayConnection) (trailers : Entries FieldValue)
      → PutsRequestEnd rules old trailers new → Leads old new
  puts_request_end rules old new trailers h = leads_then (puts_on (Origin.with_trailers h.5.0) old h.1 h.2 h.4
      (λ o r. Origin.Closed h.1 h.2 o h.5.0 r h.5.2) (λ a r is. is)) (stays h.6 (λ p o x. x))

  refuses_content : (old new : GatewayConnection) (piece : List ℕ) (error : WriteError)
      → RefusesContent old piece error new → Goes old new
  refuses_content old new piece error (inl h) = kept h.2 (λ p o x. x)
  refuses_content old new piece error (inr h) = goes_then (origin_refuses old h.0 h.1 h.2 h.3.0) (kept h.4 (λ p o x. x))

  refuses_request_end : (gateway : Gateway) (a : AskedRequest) (trailers : Entries FieldValue)
      (old : GatewayConnection) (before after : OriginConnection) (error : WriteError) → old.origin ≡ Some before
      → RefusesRequestEnd gateway a trailers before error after → Goes old (with_origin old (Some after))
  refuses_request_end gateway a trailers old before after error is (inl h) = origin_goes (λ now. now) old (Some after)
      (λ o x. subst (λ (m : Option OriginConnection). Origins m o) (is ∙ ap Some (sym h.0)) x)
  refuses_request_end gateway a trailers old before after error is (inr h) = origin_refuses old before after is h.2.0

  refuses_end : (rules : GatewayRules) (old new : GatewayConnection) (trailers : Entries FieldValue)
      (error : WriteError) → RefusesEnd rules old trailers error new → Goes old new
  refuses_end rules old new trailers error (inl h) = kept h.1 (λ p o x. x)
  refuses_end rules old new trailers error (inr h) =
      goes_then (refuses_request_end rules.gateway h.0 trailers old h.1 h.2 error h.4 h.5) (kept h.6 (λ p o x. x))

  hears_client : (rules : GatewayRules) (old new : GatewayConnection) (client : StreamConnection) (event : StreamEvent)
      → StreamSteps.Says old.client event client → PassesUp rules (with_client old client) event new → Leads old new
  hears_client rules old new client Is.NeedsInput says is =
      leads_then (hears_nothing old client says) (stays is (λ p o h. h))
  hears_client rules old new client (Is.Content piece) says (inl h) =
      leads_then (hears_content old client piece says) (puts_content (with_client old client) new piece h)
  hears_client rules old new client (Is.Content piece) says (inr h) =
      leads_then (hears_content old client piece says) (freely
      (goes_end (refuses_content (with_client old client) h.1 piece h.0 h.2) (fails h.1 new (Because.Unsent h.0) h.3)))
  hears_client rules old new client (Is.End trailers) says (inl h) =
      leads_then (hears_end old client trailers says) (puts_request_end rules (with_client old client) new trailers h)
  hears_client rules old new client (Is.End trailers) says (inr h) =
      leads_then (hears_end old client trailers says) (freely (goes_end
      (refuses_end rules (with_client old client) h.1 trailers h.0 h.2) (fails h.1 new (Because.Unsent h.0) h.3)))
  hears_client rules old new client (Is.Rejected why) says h = freely (goes_end
      (heard_client old client (Is.Rejected why) says) (fails (with_client old client) new (Because.Unread why) h))
  hears_client rules old new client event says is =
      freely (goes_end (heard_client old client event says) (ends is (λ p o x. (x, tt))))

  -- ---- what the origin said

  says_in : (old new : Option OriginConnection) (before : OriginConnection) (event : OriginEvent) → old ≡ Some before
      → SaysIn old event new → (after : OriginConnection) × (new ≡ Some after) × OriginSteps.Says before event after
  says_in (Some old) (Some new) before event is says = let same : old ≡ before = cc in
      (new, refl, subst (λ (o : OriginConnection). OriginSteps.Says o event new) same says)
  says_in None new before event is says = absurd (cc)
  says_in (Some old) None before event is says = absurd says

  -- the exchange goes on by what the origin's connection said
  carries_said : {old new : Option OriginConnection} {now : Origin.Now} {a : AskedRequest} {t next : Told} (event
      : OriginEvent) → SaysIn old event new → (c : Carries old now a t) (interim : List OriginResponse) → Origin.tell
      event (now_in t c.request c.interim) ≡ now_in next c.request interim → Carries new (Origin.tell event now) a next
  carries_said {old} {new} event says c interim turns = let s = says_in old new c.connection event c.is says in
      carries_on (Origin.tell event) s.0 s.1 c c.request interim c.sends turns

  -- the connection of an exchange was reached, and so was what it said
  reached_in : {origin : Option OriginConnection} {now : Origin.Now} {a : AskedRequest} {t : Told}
      (c : Carries origin now a t) (o : Origin.Past) → Origins origin o → Origins (Some (c.connection)) o
  reached_in c o x = subst (λ (m : Option OriginConnection). Origins m o) c.is x

  -- what begins, carries and ends no response
  abbrev IsQuiet : OriginEvent → Type 0
  IsQuiet Comes.NeedsInput = Unit {0}
  IsQuiet (Comes.Interim response) = Unit {0}
  IsQuiet (Comes.Broken fault) = Unit {0}
  IsQuiet event = ⊥

  quiet_turns : (event : OriginEvent) (t : Told) → IsQuiet event → (r : Request) (interim : List OriginResponse)
      → (later : List OriginResponse) × (Origin.tell event (now_in t r interim) ≡ now_in t r later)
  quiet_turns Comes.NeedsInput t quiet r interim = (interim, refl)
  quiet_turns (Comes.Broken fault) t quiet r interim = (interim, refl)
  quiet_turns (Comes.Interim next) Silent quiet r interim = (interim ++ next ∷ [], refl)
  quiet_turns (Comes.Interim next) (Telling response content) quiet r interim = (interim, refl)
  quiet_turns event t quiet r interim = absurd quiet

  said_quietly : (old : GatewayConnection) (origin : Option OriginConnection) (event : OriginEvent) → IsQuiet event
      → SaysIn old.origin event origin → (p : Stream.Past) (o : Origin.Past) → Held old p o
      → Held (with_origin old origin) p (record o { now = Origin.tell event o.now })
  said_quietly old origin event quiet says p o h =
      origin_held (Origin.tell event) old origin (origin_says old.origin origin event says) p o (λ a t c.
      let turns = quiet_turns event t quiet c.request c.interim in carries_said event says c turns.0 turns.1) h

  -- a response without content
  abbrev bare_of : ℕ → OriginResponse → List Header → Bare
  bare_of minor response fields =
      record { minor = minor; status = response.status; reason = response.reason; headers = fields }

  -- what an origin's connection tells of an interim response
  interim_passed : (old new : Option OriginConnection) (rules : GatewayRules) (date : ℕ) (a : AskedRequest)
      (response : OriginResponse) (sent : ForwardedResponse) (o : Origin.Past) → IsIn rules uses.rules
      → IsDecided uses a → Origins old o → Carries old o.now a Silent → SaysIn old (Comes.Interim response) new
      → IsForwardedResponse rules.gateway date (answered a response.status response) sent
      → IsInterim limits uses a.head (bare_of 1 response (fields_of sent.fields.items))
  interim_passed old new rules date a response sent o among decided x c says forwards =
      let s = says_in old new c.connection (Comes.Interim response) c.is says in
      let y = reached_in c o x in
      inr (record {
        asked = a;
        head_is = refl;
        decided = decided;
        response = response;
        sent = sent;
        forwarded = (rules, among, date, forwards);
        puts = refl;
        origin = s.0;
        past = record o { now = Origin.tell (Comes.Interim response) o.now };
        reached = Origin.Said c.connection s.0 o (Comes.Interim response) y.0 s.2;
        traffic = y.1.0;
        request = c.request;
        sends = c.sends;
        before = c.interim;
        told = ap (Origin.tell (Comes.Interim response)) c.told;
      })

  passes_interim : (rules : GatewayRules) (date : ℕ) (m new : GatewayConnection)
      (a : AskedRequest) (response : OriginResponse) (p : Stream.Past) (o : Origin.Past) → head_of p.heard ≡ Some a.head
      → ((sent : ForwardedResponse) → IsForwardedResponse rules.gateway date (answered a response.status response) sent
      → IsInterim limits uses a.head (bare_of 1 response (fields_of sent.fields.items)))
      → PassesInterim rules date m a response new → Held m p o → Since (Held new) p
  passes_interim rules date m new a response p o head is (inl (sent, forwards, inl h)) x =
      let b : Bare = bare_of 1 response (fields_of sent.fields.items) in
      let served = informed_served b p x.0.2 (λ (asked : StreamRequest)
      (is_asked : head_of p.heard ≡ Some asked). let same : a.head ≡ asked = cc (sym head ∙ is_asked) in
      subst (λ (g : StreamRequest). IsInterim limits uses g b) same (is sent forwards)) in
      let reached = Stream.Informed m.client new.client p response.status response.reason (fields_of sent.fields.items)
      x.0.1 h.0 in after p h.1 (Stream.informs b p, o, ((x.0.0, reached, served, x.0.3), x.1), refl, refl)
  passes_interim rules date m new a response p o head is (inl (sent, forwards, inr h)) x =
      (fails_after m new h.1 (Because.Unsendable h.0) (client_fails m.client h.1 h.2) h.3).step p o x.0
  passes_interim rules date m new a response p o head is (inr (inl h)) x = (unchanged h.1).step p o x
  passes_interim rules date m new a response p o head is (inr (inr (inl h))) x =
      (fails m new (Because.Response h.0) h.2).step p o x.0
  passes_interim rules date m new a response p o head is (inr (inr (inr h))) x =
      (fails m new Because.OutOfMemory h).step p o x.0

  faulted : (old new : GatewayConnection) (fault : OriginFault) (p : Stream.Past) (o : Origin.Past)
      → Faulted old fault new → Held old p o → Since (Held new) p
  faulted old new fault p o (inl h) x =
      let t = tied_at old p o At.Forwarding h.0.1 x in after p h.1 (p, o, (x.0, t.0), refl, refl)
  faulted old new fault p o (inr h) x = (fails old new (Because.Origin fault) h.1).step p o x.0

  -- ---- the head of a response

  -- what an origin's connection tells of a response, as far as it is put
  passed_on : (connection : OriginConnection) (o : Origin.Past) (a : AskedRequest) (h : Heard) (content : List ℕ)
      (r : Response) (trailers : Option (Entries FieldValue)) (request : Request) (interim : List OriginResponse)
      → IsDecided uses a → IsHeard uses a h → HasHead h content r → EndsAs uses h trailers r.trailers
      → Origins (Some connection) o → IsFor a request
      → o.now ≡ now_of trailers request interim h.response content → IsPassedOn limits uses a.head r
  passed_on connection o a h content r trailers request interim decided forwarded puts ends x sends told = record {
    asked = a;
    head_is = refl;
    decided = decided;
    heard = h;
    forwarded = forwarded;
    content = content;
    puts = puts;
    trailers = trailers;
    ends = ends;
    origin = connection;
    past = o;
    reached = x.0;
    traffic = x.1.0;
    request = request;
    sends = sends;
    interim = interim;
    told = told;
  }

  shows : (m between new : GatewayConnection) (h : Heard) (a : AskedRequest) (p : Stream.Past) (o : Origin.Past)
      → IsAsked uses m.asked (head_of p.heard) a → PutsHead m h between → new ≡ record between { heard = Some h }
      → Loose m p o → Carries m.origin o.now a (Telling h.response []) → IsHeard uses a h → Since (Held new) p
  shows m between new h a p o asked (inl put) last x c forwarded =
      let fields = closing m.is_last (head_lines h) in
      let r : Response = Stream.begins m.client.server h.response.status h.response.reason fields
      (response_size h.sent.content) in
      let puts : HasHead h [] r = record {
        status = refl;
        reason = refl;
        is_last = m.is_last;
        headers = refl;
        size = refl;
        content_is = refl;
      } in
      let reached = Stream.Responded m.client between.client p h.response.status h.response.reason fields
      (response_size h.sent.content) x.1 put.0 in
      let served = put_for a.head (Begun r) p x.2 asked.head_is (inr (inr (passed_on c.connection o a h [] r None
      c.request c.interim asked.decided forwarded puts tt (reached_in c o x.3) c.sends c.told))) in
      let judged : Judged uses m.asked (head_of p.heard) (Some h) =
      record { a = a; asked_is = asked; h = h; is = refl; forwarded = forwarded } in
      let shown : Shows (Begun r) h = record { content = []; response = r; is = refl; whole = refl; puts = puts } in
      after p (last ∙ ap (λ (g : GatewayConnection). record g { heard = Some h }) put.1)
      (Stream.answers (Begun r) p, o, ((x.0, reached, served, x.3), (judged, shown, c)), refl, refl)
  shows m between new h a p o asked (inr f) last x c forwarded =
      (goes_end (client_alone m f.1 (client_fails m.client f.1 f.2))
      (answers_with (with_client m f.1) between new (Because.Unsendable f.0) (Some h) f.3 last)).step p o x

  tells_head : (watches : Bool) (m new : GatewayConnection) (h : Heard) (a : AskedRequest) (p : Stream.Past)
      (o : Origin.Past) → IsAsked uses m.asked (head_of p.heard) a → TellsHead watches m h new → Loose m p o
      → Carries m.origin o.now a (Telling h.response []) → IsHeard uses a h → Since (Held new) p
  tells_head true m new h a p o asked is x c forwarded = let judged : Judged uses m.asked
      (head_of p.heard) (Some h) = record { a = a; asked_is = asked; h = h; is = refl; forwarded = forwarded } in
      after p is (p, o, (x, (judged, c)), refl, refl)
  tells_head false m new h a p o asked shown x c forwarded =
      shows m shown.0 new h a p o asked shown.1 shown.2 x c forwarded

  not-false : (b : Bool) → not b ≡ false → b ≡ true
  not-false true is = refl
  not-false false is = absurd (cc)

  -- a final response is known to every client
  known_final : (client : Protocol) (status : ℕ) → is_known_to client status ≡ false → (status == 101) ≡ false
      → Http.is_interim status ≡ false → ⊥
  known_final Speaks.Http10 status unknown other final =
      let interim : Responses.is_interim status ≡ true = not-false (Responses.is_interim status) unknown in
      let low = and_parts (nat_le 100 status) (nat_lt status 200) interim in
      let clash : true ≡ false = rw (low.1, other) at final in absurd (cc)
  known_final Speaks.Http11 status unknown other final = absurd (cc)

  passes_head : (rules : GatewayRules) (date : ℕ) (m new : GatewayConnection)
      (a : AskedRequest) (response : OriginResponse) (p : Stream.Past) (o : Origin.Past) → IsIn rules uses.rules
      → Http.is_interim response.status ≡ false → IsAsked uses m.asked (head_of p.heard) a → PassesHead
      rules date m a response new → Loose m p o → Carries m.origin o.now a (Telling response []) → Since (Held new) p
  passes_head rules date m new a response p o among final asked (inl h) x c = tells_head m.watches m new
      (record { response = response; sent = h.0; added = h.2 }) a p o asked h.4 x c
      ((rules, among, date, h.1), inl (ap fields_of h.3))
  passes_head rules date m new a response p o among final asked (inr (inl h)) x c =
      absurd (known_final (protocol_of a.head.minor) response.status h.0.unknown h.0.accepted.same_protocol final)
  passes_head rules date m new a response p o among final asked (inr (inr (inl h))) x c =
      (fails m new (Because.Response h.0) h.2).step p o x
  passes_head rules date m new a response p o among final asked (inr (inr (inr h))) x c =
      (fails m new Because.OutOfMemory h).step p o x

  -- what an origin's connection tells of a response that ends HTTP
  switch_passed : (old new : Option OriginConnection) (rules : GatewayRules) (date : ℕ) (a : AskedRequest)
      (response : OriginResponse) (fields : List Header) (minor : ℕ) (o : Origin.Past) → IsIn rules uses.rules
      → IsDecided uses a → Origins old o → Carries old o.now a Silent → SaysIn old (Comes.Switched response) new
      → IsSwitched rules.gateway date a response fields → IsSwitch limits uses a.head (bare_of minor response fields)
  switch_passed old new rules date a response fields minor o among decided x c says switches =
      let s = says_in old new c.connection (Comes.Switched response) c.is says in
      let y = reached_in c o x in
      inr (record {
        asked = a;
        head_is = refl;
        decided = decided;
        rules = rules;
        among = among;
        date = date;
        response = response;
        fields = fields;
        switches = switches;
        status = refl;
        reason = refl;
        headers = refl;
        origin = s.0;
        past = record o { now = Origin.tell (Comes.Switched response) o.now };
        reached = Origin.Said c.connection s.0 o (Comes.Switched response) y.0 s.2;
        traffic = y.1.0;
        request = c.request;
        sends = c.sends;
        interim = c.interim;
        told = ap (Origin.tell (Comes.Switched response)) c.told;
      })

  passes_switch : (rules : GatewayRules) (date : ℕ) (m new : GatewayConnection) (a : AskedRequest)
      (response : OriginResponse) (p : Stream.Past) (o : Origin.Past) → head_of p.heard ≡ Some a.head
      → ((fields : List Header) → IsSwitched rules.gateway date a response fields
      → IsSwitch limits uses a.head (bare_of m.client.server.request.minor response fields))
      → PassesSwitch rules date m a response new → Loose m p o → Since (Held new) p
  passes_switch rules date m new a response p o head is (inl (fields, switches, inl h)) x =
      let b : Bare = bare_of m.client.server.request.minor response fields in
      let reached = Stream.Handed m.client new.client p response.status response.reason fields x.1 h.0 in
      let served = put_for a.head (Switched b) p x.2 head (is fields switches) in
      after p h.1 (Stream.answers (Switched b) p, o, ((x.0, reached, served, x.3), tt), refl, refl)
  passes_switch rules date m new a response p o head is (inl (fields, switches, inr h)) x =
      (fails_after m new h.1 (Because.Unsendable h.0) (client_fails m.client h.1 h.2) h.3).step p o x
  passes_switch rules date m new a response p o head is (inr h) x = (fails m new h.0 h.2).step p o x

  -- ---- content, and the end

  head_on : (h : Heard) (content : List ℕ) (r : Response) (more : List ℕ) (pieces : List (List ℕ))
      (trailers : Option (List Header)) → HasHead h content r → concat pieces ≡ more
      → HasHead h more (record r { pieces = pieces; trailers = trailers })
  head_on h content r more pieces trailers puts is = record {
    status = puts.status;
    reason = puts.reason;
    is_last = puts.is_last;
    headers = puts.headers;
    size = puts.size;
    content_is = is;
  }

  shown : (m new : GatewayConnection) (piece : List ℕ) (p : Stream.Past) (o : Origin.Past) → m.stage ≡ At.Passing
      → (j : Judged uses m.asked (head_of p.heard) m.heard) (s : Shows p.answer.final j.h)
      → Carries m.origin o.now j.a (Telling j.h.response (s.content ++ piece))
      → StreamSteps.Puts m.client piece new.client → Loose m p o → Since (Held (with_client m new.client)) p
  shown m new piece p o at j s c put x =
      let r : Response = Stream.with_piece piece s.response in
      let puts : HasHead j.h (s.content ++ piece) r = head_on j.h s.content s.response (s.content ++ piece) r.pieces
      r.trailers s.puts (concat-append s.response.pieces (piece ∷ [])
      ∙ ap (λ (t : List ℕ). concat s.response.pieces ++ t) (append-nil piece)
      ∙ ap (λ (t : List ℕ). t ++ piece) s.puts.content_is) in
      let q : Stream.Past = Stream.answers (Stream.change (Stream.with_piece piece) p.answer.final) p in
      let unended = subst (λ (t : Option (List Header)). EndsAs uses j.h None t) (sym s.whole) tt in
      let served = on_served (Stream.with_piece piece) s.response p s.is
      (put_for j.a.head (Begun r) p x.2 j.asked_is.head_is (inr (inr (passed_on c.connection o j.a j.h
      (s.content ++ piece) r None c.request c.interim j.asked_is.decided j.forwarded puts unended (reached_in c o x.3)
      c.sends c.told)))) in
      let shows : Shows q.answer.final j.h = record {
        content = s.content ++ piece;
        response = r;
        is = ap (Stream.change (Stream.with_piece piece)) s.is;
        whole = s.whole;
        puts = puts;
      } in
      let tied = subst (λ (stage : Stage). TiedAt uses stage (parts_of (with_client m new.client) q o)) (sym at)
      (j, shows, c) in
      (q, o, ((x.0, Stream.Put m.client new.client p piece x.1 put, served, x.3), tied), refl, refl)

  passes_piece : (m new : GatewayConnection) (piece : List ℕ) (told : Option GatewayEvent) (p : Stream.Past)
      (o : Origin.Past) → m.stage ≡ At.Passing → (j : Judged uses m.asked (head_of p.heard) m.heard)
      (s : Shows p.answer.final j.h) → Carries m.origin o.now j.a (Telling j.h.response (s.content ++ piece))
      → PassesPiece m piece told new → Loose m p o → Since (Held new) p
  passes_piece m new piece told p o at j s c (inl (put, inl w)) x = after p w.2 (shown m new piece p o at j s c put x)
  passes_piece m new piece told p o at j s c (inl (put, inr w)) x = after p w.2 (shown m new piece p o at j s c put x)
  passes_piece m new piece told p o at j s c (inr h) x = (goes_end
      (client_alone m new.client (client_refuses m.client new.client h.1.0)) (ends h.3 (λ p o x. (x, tt)))).step p o x

  end_refused : (gateway : Gateway) (h : Heard) (trailers : Entries FieldValue) (old new : StreamConnection)
      (error : WriteError) → RefusesResponseEnd gateway h trailers old error new → ClientGoes old new
  end_refused gateway h trailers old new error (inl f) = client_same f.0
  end_refused gateway h trailers old new error (inr f) = client_refuses old new f.2.0

  passes_end : (rules : GatewayRules) (old new : GatewayConnection) (origin : Option OriginConnection)
      (trailers : Entries FieldValue) (p : Stream.Past) (o : Origin.Past) → IsIn rules uses.rules
      → SaysIn old.origin (Comes.End trailers) origin → (j : Judged uses old.asked (head_of p.heard) old.heard)
      (s : Shows p.answer.final j.h) → Carries old.origin o.now j.a (Telling j.h.response s.content)
      → ((EndsResponse rules.gateway j.h trailers old.client new.client
      × (new ≡ record (with_origin old origin) { client = new.client; stage = At.Ended }))
      ⊎ ((error : WriteError) × RefusesResponseEnd rules.gateway j.h trailers old.client error new.client
      × (new ≡ record (with_origin old origin) { client = new.client; stage = At.Aborted })))
      → Loose old p o → Since (Held new) p
  passes_end rules old new origin trailers p o among says j s c (inl (e, over)) x =
      let r : Response = Stream.with_trailers e.0 s.response in
      let puts : HasHead j.h s.content r =
      head_on j.h s.content s.response s.content r.pieces r.trailers s.puts s.puts.content_is in
      let t = says_in old.origin origin c.connection (Comes.End trailers) c.is says in
      let y = reached_in c o x.3 in
      let n : Origin.Past = record o { now = Origin.tell (Comes.End trailers) o.now } in
      let passed = passed_on t.0 n j.a j.h s.content r (Some trailers) c.request c.interim j.asked_is.decided
      j.forwarded puts (rules, among, e.1) (Origin.Said c.connection t.0 o (Comes.End trailers) y.0 t.2, y.1) c.sends
      (ap (Origin.tell (Comes.End trailers)) c.told) in
      let served = on_served (Stream.with_trailers e.0) s.response p s.is
      (put_for j.a.head (Begun r) p x.2 j.asked_is.head_is (inr (inr passed))) in
      let reached = Stream.Ended old.client new.client p e.0 x.1 e.2 in
      let origins = origin_says old.origin origin (Comes.End trailers) says o x.3 in
      let q : Stream.Past = Stream.answers (Stream.change (Stream.with_trailers e.0) p.answer.final) p in
      after p over (q, n, ((x.0, reached, served, origins), tt), refl, refl)
  passes_end rules old new origin trailers p o among says j s c (inr e) x =
      (goes_end (heard_origin old origin (Comes.End trailers) says)
      (goes_end (client_alone (with_origin old origin) new.client
      (end_refused rules.gateway j.h trailers old.client new.client e.0 e.1)) (ends e.2 (λ p o x. (x, tt))))).step p o x

  -- ---- steps

  -- what is said of what there is
  of_known : {A N : Type 0} {P : A → Type 0} {known : Option A} (a : A) → known ≡ Some a
      → ((b : A) × (known ≡ Some b) × P b) ⊎ ((known ≡ None) × N) → P a
  of_known {P = P} a is (inl h) = let same : h.0 ≡ a = cc (sym h.1 ∙ is) in subst P same h.2
  of_known a is (inr h) = absurd (cc (sym h.0 ∙ is))

  hears_forwarding : (rules : GatewayRules) (date : ℕ) (old new : GatewayConnection) (told : Option GatewayEvent)
      → old.stage ≡ At.Forwarding → IsIn rules uses.rules → (origin : Option OriginConnection) (event : OriginEvent)
      → SaysIn old.origin event origin → PassesDown rules date (with_origin old origin) event told new
      → (p : Stream.Past) (o : Origin.Past) → Held old p o → Since (Held new) p
  hears_forwarding rules date old new told at among origin Comes.NeedsInput says d p o h =
      let n : Origin.Past = record o { now = Origin.tell Comes.NeedsInput o.now } in
      after p d.1 (p, n, said_quietly old origin Comes.NeedsInput tt says p o h, refl, refl)
  hears_forwarding rules date old new told at among origin (Comes.Interim response) says d p o h =
      let t = tied_at old p o At.Forwarding at h in
      passes_interim rules date (with_origin old origin) new t.0.a response p
      (record o { now = Origin.tell (Comes.Interim response) o.now }) t.0.asked_is.head_is
      (λ sent forwards. interim_passed old.origin origin rules date t.0.a response sent o among t.0.asked_is.decided
      h.0.3 t.1 says forwards) (of_known t.0.a t.0.asked_is.is d.1)
      (said_quietly old origin (Comes.Interim response) tt says p o h)
  hears_forwarding rules date old new told at among origin (Comes.Head response) says d p o h =
      let t = tied_at old p o At.Forwarding at h in
      let s = says_in old.origin origin t.1.connection (Comes.Head response) t.1.is says in
      passes_head rules date (with_origin old origin) new t.0.a response p (record o {
        now = Origin.tell (Comes.Head response) o.now;
      }) among (says_final t.1.connection s.0 response s.2) t.0.asked_is (of_known
      t.0.a t.0.asked_is.is d.1) (h.0.0, h.0.1, h.0.2, origin_says old.origin origin (Comes.Head response) says o h.0.3)
      (carries_said (Comes.Head response) says t.1 t.1.interim refl)
  hears_forwarding rules date old new told at among origin (Comes.Content piece) says d p o h =
      let t = tied_at old p o At.Forwarding at h in
      let s = says_in old.origin origin t.1.connection (Comes.Content piece) t.1.is says in
      absurd (content_late s.0 t.1.request t.1.interim piece (reached_in t.1 o h.0.3).0 t.1.told s.2)
  hears_forwarding rules date old new told at among origin (Comes.End trailers) says d p o h =
      let t = tied_at old p o At.Forwarding at h in
      let s = says_in old.origin origin t.1.connection (Comes.End trailers) t.1.is says in
      absurd (end_late s.0 t.1.request t.1.interim trailers (reached_in t.1 o h.0.3).0 t.1.told s.2)
  hears_forwarding rules date old new told at among origin (Comes.Switched response) says d p o h =
      let t = tied_at old p o At.Forwarding at h in
      passes_switch rules date (with_origin old origin) new t.0.a response p
      (record o { now = Origin.tell (Comes.Switched response) o.now }) t.0.asked_is.head_is
      (λ fields switches. switch_passed old.origin origin rules date t.0.a response fields
      old.client.server.request.minor o among t.0.asked_is.decided h.0.3 t.1 says switches)
      (of_known t.0.a t.0.asked_is.is d.1)
      (h.0.0, h.0.1, h.0.2, origin_says old.origin origin (Comes.Switched response) says o h.0.3)
  hears_forwarding rules date old new told at among origin Comes.Closed says d p o h =
      (goes_end (heard_origin old origin Comes.Closed says)
      (fails (with_origin old origin) new (Because.Origin Faults.CutShort) d.1)).step p o h.0
  hears_forwarding rules date old new told at among origin (Comes.Broken fault) says d p o h =
      faulted (with_origin old origin) new fault p (record o { now = Origin.tell (Comes.Broken fault) o.now }) d.1
      (said_quietly old origin (Comes.Broken fault) tt says p o h)

  hears_passing : (rules : GatewayRules) (date : ℕ) (old new : GatewayConnection) (told : Option GatewayEvent)
      → old.stage ≡ At.Passing → IsIn rules uses.rules → (origin : Option OriginConnection) (event : OriginEvent)
      → SaysIn old.origin event origin → PassesDown rules date (with_origin old origin) event told new
      → (p : Stream.Past) (o : Origin.Past) → Held old p o → Since (Held new) p
  hears_passing rules date old new told at among origin Comes.NeedsInput says d p o h =
      let n : Origin.Past = record o { now = Origin.tell Comes.NeedsInput o.now } in
      after p d.1 (p, n, said_quietly old origin Comes.NeedsInput tt says p o h, refl, refl)
  hears_passing rules date old new told at among origin (Comes.Interim response) says d p o h =
      let t = tied_at old p o At.Passing at h in
      let s = says_in old.origin origin t.2.connection (Comes.Interim response) t.2.is says in
      absurd (interim_late s.0 t.2.request t.2.interim t.0.h.response response t.1.content
      (reached_in t.2 o h.0.3).0 t.2.told s.2)
  hears_passing rules date old new told at among origin (Comes.Head response) says d p o h =
      let t = tied_at old p o At.Passing at h in
      let s = says_in old.origin origin t.2.connection (Comes.Head response) t.2.is says in
      absurd (heads_once s.0 t.2.request t.2.interim t.0.h.response response t.1.content (reached_in t.2 o h.0.3).0
      t.2.told s.2)
  hears_passing rules date old new told at among origin (Comes.Content piece) says d p o h =
      let t = tied_at old p o At.Passing at h in
      passes_piece (with_origin old origin) new piece told p
      (record o { now = Origin.tell (Comes.Content piece) o.now }) at t.0 t.1 (carries_said (Comes.Content piece) says
      t.2 t.2.interim refl) d (h.0.0, h.0.1, h.0.2, origin_says old.origin origin (Comes.Content piece) says o h.0.3)
  hears_passing rules date old new told at among origin (Comes.End trailers) says d p o h =
      let t = tied_at old p o At.Passing at h in
      passes_end rules old new origin trailers p o among says t.0 t.1 t.2 (of_known t.0.h t.0.is d.1) h.0
  hears_passing rules date old new told at among origin (Comes.Switched response) says d p o h =
      let t = tied_at old p o At.Passing at h in
      let s = says_in old.origin origin t.2.connection (Comes.Switched response) t.2.is says in
      absurd (switch_late s.0 t.2.request t.2.interim t.0.h.response response t.1.content
      (reached_in t.2 o h.0.3).0 t.2.told s.2)
  hears_passing rules date old new told at among origin Comes.Closed says d p o h =
      (goes_end (heard_origin old origin Comes.Closed says)
      (fails (with_origin old origin) new (Because.Origin Faults.CutShort) d.1)).step p o h.0
  hears_passing rules date old new told at among origin (Comes.Broken fault) says d p o h =
      faulted (with_origin old origin) new fault p (record o { now = Origin.tell (Comes.Broken fault) o.now }) d.1
      (said_quietly old origin (Comes.Broken fault) tt says p o h)

  transfers : (rules : GatewayRules) (date : ℕ) (old new : GatewayConnection) (told : Option GatewayEvent)
      → ((origin : Option OriginConnection) (event : OriginEvent) → SaysIn old.origin event origin
      → PassesDown rules date (with_origin old origin) event told new → (p : Stream.Past) (o : Origin.Past)
      → Held old p o → Since (Held new) p) → Transfers rules date old told new → Leads old new
  transfers rules date old new told hears (inl h) =
      let x = h.1 in record { step = λ p o y. hears x.1 x.0 x.2 x.3 p o y }
  transfers rules date old new told hears (inr (inl h)) = let x = h.2 in hears_client rules old new x.1 x.0 x.2 x.3
  transfers rules date old new told hears (inr (inr h)) = unchanged h.1

  answers_head : (old new : GatewayConnection) (client : StreamConnection) (head : StreamRequest) (own : Own)
      → StreamSteps.Says old.client (Is.Head head) client → Answers (begun (with_client old client)) own new
      → Ends old new
  answers_head old new client head own says h =
      goes_end {b = begun (with_client old client)} (goes_then (heard_client old client (Is.Head head) says)
      (kept refl (λ p o x. x))) (answers (begun (with_client old client)) new own h)

  follows_head : (old new : GatewayConnection) (client : StreamConnection) (head : StreamRequest) (rules : GatewayRules)
      (decision : RequestDecision) → IsIn rules uses.rules → IsDecision rules old.peer head decision → StreamSteps.Says
      old.client (Is.Head head) client → Follows (begun (with_client old client)) head decision new → Ends old new
  follows_head old new client head rules (Decides.Send outgoing) among decided says is = record {
    step = λ p o x.
        let a : AskedRequest = record { head = head; outgoing = outgoing } in
        let is_decided : IsDecided uses a =
        (rules, among, subst (λ (peer : Peer). IsDecision rules peer head (Decides.Send outgoing)) x.0 decided) in
        let asked : IsAsked uses (Some a) (Some head) a = record { is = refl; head_is = refl; decided = is_decided } in
        let waits : Waiting uses (Some a) (sent_fields (begun old)) (Some head) =
        record { a = a; asked_is = asked; are = inl refl } in
        let reached = Stream.Said old.client client p (Is.Head head) x.1 says in
        let q : Stream.Past = Stream.tell (Is.Head head) p in
        after p is (q, o, ((x.0, reached, tell_served (Is.Head head) p x.2, x.3), waits), refl, refl);
  }
  follows_head old new client head rules (Decides.Answer own) among decided says h =
      answers_head old new client head own says h

  considers_head : (rules : GatewayRules) (old new : GatewayConnection) (client : StreamConnection)
      (head : StreamRequest) → IsIn rules uses.rules → StreamSteps.Says old.client (Is.Head head) client
      → Considers rules (with_client old client) head new → Ends old new
  considers_head rules old new client head among says (inl h) =
      follows_head old new client head rules h.0 among h.1 says h.2
  considers_head rules old new client head among says (inr h) =
      answers_head old new client head Because.OutOfMemory says h

  awaits_request : (rules : GatewayRules) (old new : GatewayConnection)
      (told : Option GatewayEvent) (client : StreamConnection) (event : StreamEvent) → IsIn rules uses.rules
      → StreamSteps.Says old.client event client → Awaits rules (with_client old client) event told new → Leads old new
  awaits_request rules old new told client Is.NeedsInput among says h =
      leads_then (hears_nothing old client says) (stays h.1 (λ p o h. h))
  awaits_request rules old new told client (Is.Head head) among says h =
      freely (considers_head rules old new client head among says h.1)
  awaits_request rules old new told client (Is.Content piece) among says h =
      leads_then (hears_content old client piece says) (unchanged h.1)
  awaits_request rules old new told client (Is.End trailers) among says h =
      leads_then (hears_end old client trailers says) (stays h.1 (λ p o h. h))
  awaits_request rules old new told client (Is.Rejected why) among says h = freely (goes_end
      (heard_client old client (Is.Rejected why) says) (answers (with_client old client) new (Because.Unread why) h.1))
  awaits_request rules old new told client event among says h =
      freely (goes_end (heard_client old client event says) (ends h.1 (λ p o x. (x, tt))))

  next_tied : (m : GatewayConnection) (stage : Stage) (v : Parts) → IsNext m stage → TiedAt uses stage v
  next_tied m stage v (inl h) = subst (λ (s : Stage). TiedAt uses s v) (sym h.1) tt
  next_tied m stage v (inr h) = subst (λ (s : Stage). TiedAt uses s v) (sym h.1) tt

  steps : (rules : GatewayRules) (date : ℕ) (stage : Stage) (old new : GatewayConnection) (told : Option GatewayEvent)
      → old.stage ≡ stage → IsIn rules uses.rules → StepsAt stage rules date old told new → Leads old new
  steps rules date At.Idle old new told is among h = awaits_request rules old new told h.1 h.0 among h.2 h.3
  steps rules date At.Forwarding old new told is among h =
      transfers rules date old new told (hears_forwarding rules date old new told is among) h
  steps rules date At.Passing old new told is among h =
      transfers rules date old new told (hears_passing rules date old new told is among) h
  steps rules date At.Ended old new told is among h =
      freely (ends h.2 (λ p o x. (x, next_tied old new.stage (parts_of old p o) h.1)))
  steps rules date At.Repeating old new told is among h =
      record { step = λ p o x. after p h.1 (p, o, (x.0, tied_at old p o At.Repeating is x), refl, refl) }
  steps rules date stage old new told is among h = unchanged h.1

  runs_on : {rules : GatewayRules} {date : ℕ} {old new : GatewayConnection} → IsIn rules uses.rules
      → Runs rules date old new → Leads old new
  runs_on among Rests = unchanged refl
  runs_on {rules} {date} among (Went between last before step) =
      leads_then (runs_on among before) (steps rules date between.stage between last None refl among step)

  says_at : (rules : GatewayRules) (date : ℕ) (between new : GatewayConnection) (event : GatewayEvent)
      → IsIn rules uses.rules
      → (Steps rules date between (Some event) new ⊎ ((event ≡ Tells.Waits) × (new ≡ between))) → Leads between new
  says_at rules date between new event among (inl h) =
      steps rules date between.stage between new (Some event) refl among h
  says_at rules date between new event among (inr h) = unchanged h.1

  says : (rules : GatewayRules) (date : ℕ) (old new : GatewayConnection) (event : GatewayEvent)
      → IsIn rules uses.rules → Says rules date old event new → Leads old new
  says rules date old new event among h = leads_then (runs_on among h.1) (says_at rules date h.0 new event among h.2)

  -- ---- the caller's calls

  -- the request was begun, and nothing came of a response
  abbrev IsSentTo : AskedRequest → OriginConnection → Type 0
  IsSentTo a m =
      (n : Origin.Past) × Origins (Some m) n × (request : Request) × IsFor a request × (n.now ≡ Origin.Asked request [])

  puts_request : (a : AskedRequest) (fields : List Header) (old new : OriginConnection) (o : Origin.Past)
      → AreFieldsOf a fields → PutsRequest a fields old new → Origins (Some old) o → IsSentTo a new
  puts_request a fields old new o are puts x = (
    _,
    (
      Origin.Begun old new o a.head.method a.outgoing.target fields (request_size a.outgoing.framing) x.0 puts,
      x.1,
    ),
    Origin.asks a.head.method a.outgoing.target fields (request_size a.outgoing.framing),
    (refl, refl, are),
    refl,
  )

  ends_if : (a : AskedRequest) (whole : Bool) (old new : OriginConnection) → EndsIf whole old new → IsSentTo a old
      → IsSentTo a new
  ends_if a true old new h x = (
    _,
    (Origin.Closed old new x.0 [] x.1.0 h, x.1.1),
    Origin.with_trailers [] x.2,
    x.3,
    ap (Origin.change (Origin.with_trailers [])) x.4,
  )
  ends_if a false old new h x = subst (λ (m : OriginConnection). IsSentTo a m) (sym h) x

  begins_at : (asked : Option AskedRequest) (a : AskedRequest) (m : GatewayConnection) (old new : OriginConnection)
      (goes : Bool) (o : Origin.Past) → asked ≡ Some a → AreFieldsOf a (sent_fields m a)
      → BeginsAt asked m old new goes → Origins (Some old) o → IsSentTo a new
  begins_at (Some b) a m old new goes o is are h x = let same : b ≡ a = cc in
      let begins = subst (λ (r : AskedRequest). Begins r (sent_fields m r) m.whole old new) same h.0 in
      ends_if a m.whole begins.0 new begins.2 (puts_request a (sent_fields m a) old begins.0 o are begins.1 x)
  begins_at None a m old new goes o is are h x = absurd (cc)

  refuses_begin : (a : AskedRequest) (fields : List Header) (old new : OriginConnection) (error : WriteError)
      (o : Origin.Past) → RefusesBegin a fields old error new → Origins (Some old) o
      → (n : Origin.Past) × Origins (Some new) n
  refuses_begin a fields old new error o (inl (inl h)) x =
      (o, subst (λ (m : OriginConnection). Origins (Some m) o) (sym h.0) x)
  refuses_begin a fields old new error o (inl (inr h)) x = (o, (Origin.Refused old new o x.0 h.0, x.1))
  refuses_begin a fields old new error o (inr h) x = (
    _,
    (
      Origin.Refused h.0 new _ (Origin.Begun old h.0 o a.head.method a.outgoing.target fields
          (request_size a.outgoing.framing) x.0 h.1) h.2.0,
      x.1,
    ),
  )

  refuses_begin_at : (asked : Option AskedRequest) (m : GatewayConnection) (old new : OriginConnection)
      (error : WriteError) (o : Origin.Past) → RefusesBeginAt asked m old error new → Origins (Some old) o
      → (n : Origin.Past) × Origins (Some new) n
  refuses_begin_at (Some a) m old new error o h x = refuses_begin a (sent_fields m a) old new error o h x
  refuses_begin_at None m old new error o h x = (o, subst (λ (m : OriginConnection). Origins (Some m) o) (sym h.1) x)

  continues_if : (goes : Bool) (old new : GatewayConnection) → ContinuesIf goes old new → Leads old new
  continues_if false old new h = unchanged h
  continues_if true old new (inl h) = leads_then (client_leads old new.client
      (client_continues old.client new.client h.0) (λ p r s. (refl, refl))) (stays h.1 (λ p o h. h))
  continues_if true old new (inr h) =
      freely (answers_after old new h.1 (Because.Unsendable h.0) (client_refuses old.client h.1 h.2.0) h.3)

  -- the request that waits is sent over this connection, which was reached
  sends : (old new : GatewayConnection) (origin : OriginConnection) (watches : Bool) (p : Stream.Past)
      (o : Origin.Past) → Waiting uses old.asked (sent_fields old) (head_of p.heard)
      → Loose (with_origin old None) p o → Origins (Some origin) o → Sends old origin watches new → Since (Held new) p
  sends old new origin watches p o w x y (inl h) =
      let b = begins_at old.asked w.a old origin h.0 h.1 o w.asked_is.is w.are h.2 y in
      let c : Carries (Some (h.0)) b.0.now w.a Silent = record {
        connection = h.0;
        is = refl;
        request = b.2;
        sends = b.3;
        interim = [];
        told = b.4;
      } in
      let leads = continues_if h.1 (record (taking old h.0 watches) { stage = At.Forwarding }) new h.3 in
      leads.step p b.0 ((x.0, x.1, x.2, b.1), (w, c))
  sends old new origin watches p o w x y (inr h) = let n = refuses_begin_at old.asked old origin h.0 h.1 o h.2 y in
      (answers (taking old h.0 watches) new (Because.Unsent h.1) h.3).step p n.0 (x.0, x.1, x.2, n.1)

  -- the response that waits may be read to its end
  settles_as : (old new : GatewayConnection) → Settles old new → (new ≡ record old { origin = new.origin })
      × ((o : Origin.Past) → Origins old.origin o → (n : Origin.Past) × Origins new.origin n)
  settles_as old new (inl h) = (
    subst (λ (m : GatewayConnection). m ≡ record old { origin = m.origin }) (sym h.1) refl,
    λ o x. (o, subst (λ (m : GatewayConnection). Origins m.origin o) (sym h.1) x),
  )
  settles_as old new (inr h) = (
    h.3,
    λ o x. (record o { now = Origin.tell h.1 o.now }, origin_says old.origin new.origin h.1 h.2 o x),
  )

  settles : (old new : GatewayConnection) → Settles old new → Goes old new
  settles old new h = let s = settles_as old new h in
      goes_then {b = record old { origin = new.origin }} (record
      { step = λ p o x. let n = s.1 o x.3 in (p, n.0, (x.0, x.1, x.2, n.1), refl, refl) }) (kept s.0 (λ p o x. x))

  answers_settled : (old between new : GatewayConnection) (own : Own) → Settles old between → Answers between own new
      → Leads old new
  answers_settled old between new own settled h = freely (goes_end (settles old between settled)
      (answers between new own h))

  asks_again : (old new : GatewayConnection) → AsksAgain old new → Leads old new
  asks_again old new (inl h) = unchanged h.1
  asks_again old new (inr (at, between, settled, inl h)) =
      answers_settled old between new (Because.Chosen 502) settled h.1
  asks_again old new (inr (at, between, settled, inr h)) = record {
    step = λ p o x.
        let j = (tied_at old p o At.Judging at x).0 in
        let s = settles_as old between settled in
        let n = s.1 o x.0.3 in
        let w : Waiting uses old.asked (λ a. fields_of a.outgoing.fields.items) (head_of p.heard) =
        record { a = j.a; asked_is = j.asked_is; are = inl refl } in
        after p (h.1 ∙ ap (λ (m : GatewayConnection). record m {
          heard = None;
          conditional = None;
          repeats = true;
          stage = At.Repeating;
        }) s.0) (p, n.0, ((x.0.0, x.0.1, x.0.2, n.1), w), refl, refl);
  }

  connects_as : (old new : GatewayConnection) → ConnectsAs old new → Ends old new
  connects_as old new (inl h) =
      goes_end (client_alone old new.client (client_connects old.client new.client h.0)) (ends h.1 (λ p o x. (x, tt)))
  connects_as old new (inr h) =
      answers_after old new h.1 (Because.Unsendable h.0) (client_refuses old.client h.1 h.2.0) h.3

  connects : (old new : GatewayConnection) → Connects old new → Leads old new
  connects old new (inl h) = unchanged h.1
  connects old new (inr (asks, (event, client, says, goes))) =
      freely (goes_end (heard_client old client event says) (connects_as (with_client old client) new goes))

  gives : (old new : GatewayConnection) (status : ℕ) (reason : List ℕ) (fields : List Header) (size : BodySize)
      → IsIn (record { status = status; reason = reason; fields = fields; size = size }) uses.given
      → Gives old status reason fields size new → Ends old new
  gives old new status reason fields size among h = record {
    step = λ p o x.
        let r : Response = Stream.begins old.client.server status reason (closing old.is_last fields) size in
        let given : IsGiven uses r = (old.is_last, fields, refl, among) in
        let reached = Stream.Responded old.client h.1 p status reason (closing old.is_last fields) size x.1 h.2 in
        let served = put_served (Begun r) p x.2 (λ head is. inr (inl given)) in
        let s = settles_as (with_client old h.1) h.3 h.4 in
        let n = s.1 o x.3 in
        after p (h.5 ∙ ap (λ (m : GatewayConnection). record m { stage = At.Giving }) s.0)
        (Stream.answers (Begun r) p, n.0, ((x.0, reached, served, n.1), (r, refl, given)), refl, refl);
  }

  gives_piece : (old new : GatewayConnection) (piece : List ℕ) → old.stage ≡ At.Giving
      → StreamSteps.Puts old.client piece new.client → new ≡ record old { client = new.client } → Leads old new
  gives_piece old new piece at puts is = record {
    step = λ p o x.
        let g = tied_at old p o At.Giving at x in
        let r : Response = Stream.with_piece piece g.0 in
        let q : Stream.Past = Stream.answers (Stream.change (Stream.with_piece piece) p.answer.final) p in
        let served = on_served (Stream.with_piece piece) g.0 p g.1
        (put_served (Begun r) p x.0.2 (λ head is. inr (inl g.2))) in
        let reached = Stream.Put old.client new.client p piece x.0.1 puts in
        let tied = subst (λ (s : Stage). TiedAt uses s (parts_of (with_client old new.client) q o)) (sym at)
        (r, ap (Stream.change (Stream.with_piece piece)) g.1, g.2) in
        after p is (q, o, ((x.0.0, reached, served, x.0.3), tied), refl, refl);
  }

  gives_end : (old new : GatewayConnection) (trailers : List Header) → EndsGiving old trailers new → Leads old new
  gives_end old new trailers h = record {
    step = λ p o x.
        let g = tied_at old p o At.Giving h.0 x in
        let r : Response = Stream.with_trailers trailers g.0 in
        let q : Stream.Past = Stream.answers (Stream.change (Stream.with_trailers trailers) p.answer.final) p in
        let served = on_served (Stream.with_trailers trailers) g.0 p g.1
        (put_served (Begun r) p x.0.2 (λ head is. inr (inl g.2))) in
        let reached = Stream.Ended old.client new.client p trailers x.0.1 h.1 in
        after p h.2 (q, o, ((x.0.0, reached, served, x.0.3), tt), refl, refl);
  }

  -- nothing is put
  nothing_put : (old new : GatewayConnection) → StreamSteps.PutsNothing old.client new.client
      → new ≡ record old { client = new.client } → Leads old new
  nothing_put old new nothing is = leads_then (client_leads old new.client
      (client_refuses old.client new.client nothing) (λ p r s. (refl, refl))) (stays is (λ p o h. h))

  refuses_giving : (old new : GatewayConnection) (status : ℕ) (reason : List ℕ) (fields : List Header)
      (size : BodySize) (error : WriteError) → RefusesGiving old status reason fields size error new → Leads old new
  refuses_giving old new status reason fields size error (inl h) = unchanged h.2
  refuses_giving old new status reason fields size error (inr (inl h)) = unchanged h.1
  refuses_giving old new status reason fields size error (inr (inr h)) = nothing_put old new h.0.0 h.1

  refuses_in_giving : (old new : GatewayConnection) (refusal : Option WriteError) (error : WriteError)
      → RefusesInGiving refusal old error new → Leads old new
  refuses_in_giving old new refusal error (inl h) = unchanged h.2
  refuses_in_giving old new refusal error (inr h) = nothing_put old new h.0.0 h.1

  -- what the caller adds to the response that waits
  adds : (h : Heard) (lines : List Header) (old new : GatewayConnection)
      → IsIn (record { response = h.response; lines = lines }) uses.added → Adds h lines old new → Leads old new
  adds h lines old new among a = record {
    step = λ p o x.
        let t = tied_at old p o At.Judging a.0 x in
        let same : t.0.h ≡ h = cc (sym t.0.is ∙ a.1) in
        let c = subst (λ (g : Heard). Carries old.origin o.now t.0.a (Telling g.response [])) same t.1 in
        let forwarded = subst (λ (g : Heard). IsForwarded uses t.0.a g.response g.sent) same t.0.forwarded.0 in
        let g : Heard = record h { added = a.3 } in
        let added = subst (λ (l : List Header). AreAdded uses h.response l) (sym a.4) (inr (among, a.2)) in
        let judged : Judged uses old.asked (head_of p.heard) (Some g) =
        record { a = t.0.a; asked_is = t.0.asked_is; h = g; is = refl; forwarded = (forwarded, added) } in
        let tied = subst (λ (s : Stage). TiedAt uses s (parts_of (record old { heard = Some g }) p o)) (sym a.0)
        (judged, c) in
        after p a.5 (p, o, (x.0, tied), refl, refl);
  }

  passes : (old new : GatewayConnection) → Passes old new → Leads old new
  passes old new (inl h) = record {
    step = λ p o x.
        let t = tied_at old p o At.Judging h.0 x in
        let same : t.0.h ≡ h.1 = cc (sym t.0.is ∙ h.2) in
        let c = subst (λ (g : Heard). Carries old.origin o.now t.0.a (Telling g.response [])) same t.1 in
        let forwarded = subst (λ (g : Heard). IsHeard uses t.0.a g) same t.0.forwarded in
        shows (record old { heard = None }) h.3.0 new h.1 t.0.a p o t.0.asked_is h.3.1 h.3.2 x.0 c forwarded;
  }
  passes old new (inr h) = unchanged h.1

  ends_idle_as : (old new : GatewayConnection) (event : StreamEvent) → EndsIdleAs old event new → Ends old new
  ends_idle_as old new (Is.Rejected why) h = answers old new Because.LateRequest h
  ends_idle_as old new event is = ends is (λ p o x. (x, tt))

  ends_idle : (old new : GatewayConnection) → EndsIdle old new → Leads old new
  ends_idle old new h = freely (goes_end (client_alone old h.2 (client_then (client_finishes old.client h.0 h.3)
      (client_says h.0 h.2 h.1 h.4))) (ends_idle_as (with_client old h.2) new h.1 h.5))

  times_out : (phase : ExchangePhase) (old new : GatewayConnection) → TimesOutAt phase old new → Leads old new
  times_out Does.Idle old new h = ends_idle old new h
  times_out Does.Head old new h = ends_idle old new h
  times_out Does.Asking old new h = freely (answers old new Because.LateResponse h)
  times_out Does.Content old new h = freely (answers old new Because.LateRequest h)
  times_out Does.Response old new h = freely (answers old new Because.LateResponse h)
  times_out Does.Over old new is = unchanged is
  times_out phase old new is = freely (ends is (λ p o x. (x, tt)))

  -- the origin's connection is taken while none is needed
  taken : (old new : GatewayConnection) → is_passing old.stage ≡ false
      → new ≡ record old { origin = None; origin_hungry = false } → Leads old new
  taken old new still is =
      stays is (λ p o h. ((h.0.0, h.0.1, h.0.2, tt), tied_without uses old.stage (parts_of old p o) still h.1))

  takes : (old new : GatewayConnection) (origin : Option OriginConnection) → TakesOrigin old origin new → Leads old new
  takes old new (Some origin) h = taken old new h.0 h.3
  takes old new None (inl h) = unchanged h.1
  takes old new None (inr h) = taken old new h.0 h.2

  finishes_client : (old new : GatewayConnection) → FinishesClient old new → Leads old new
  finishes_client old new h = leads_then (client_leads old new.client
      (client_finishes old.client new.client h.0) (λ p r s. (refl, refl))) (stays h.1 (λ p o h. h))

  -- the conditions of the request that waits are put
  conditions : (etags since : Option FieldValue) (old new : GatewayConnection) → Conditions etags since old new
      → Leads old new
  conditions etags since old new (inl h) = unchanged h.1
  conditions etags since old new (inr h) = stays h.3 (λ (p : Stream.Past) (o : Origin.Past) (x : Held old p o). (
    x.0,
    tied_as uses old.stage (parts_of old p o) (sent_fields new) (λ a is.
        let same : h.0 ≡ a = cc (sym h.1 ∙ is) in
        subst (λ (b : AskedRequest). AreFieldsOf b (sent_fields new b)) same (inr (etags, since, h.2))) x.1,
  ))

-- ---- the origin's bytes

at_most : (a b : ℕ) → min a b ≤ b
at_most a b = omega arith

went_over : {t : Traffic} {lines older : List Traffic} → lines ≡ t ∷ older → WentOver t lines
went_over {t} is = subst (WentOver t) (sym is) (inl ([], append-nil t.received, [], append-nil t.sent))

-- what an origin's connection does with its bytes
abbrev CarriesBytes : Limits → Option OriginConnection → List Traffic → List Traffic → OriginConnection
    → OriginConnection → Type 0
CarriesBytes limits old lines more before after =
    (o : Origin.Past) (older : List Traffic) → old ≡ Some before → Origin.IsReached limits before o
    → lines ≡ traffic_of o ∷ older → (received : List ℕ) × (sent : List ℕ) × Origin.IsReached limits after
    (record o { received = received; sent = sent }) × (more ≡ record { received = received; sent = sent } ∷ older)

origin_changes : (limits : Limits) (uses : Uses) (lines more : List Traffic)
    (P : OriginConnection → OriginConnection → Type 0) (old new : Option OriginConnection) (o : Origin.Past)
    → ((t : Traffic) → WentOver t more → WentOver t uses.traffic) → ((before after : OriginConnection) → P before after
    → CarriesBytes limits old lines more before after) → OnOrigin P old new → Origins limits uses lines old o →
    (received : List ℕ) × (sent : List ℕ) × Origins limits uses more new (record o { received = received; sent = sent })
    × ((a : AskedRequest) (t : Told) → Carries old o.now a t → Carries new o.now a t)
origin_changes limits uses lines more P (Some old) (Some new) o grows step h x =
    let y = step old new h o x.1.1 refl x.0 x.1.2 in (
      y.0,
      y.1,
      (y.2, (grows (record { received = y.0; sent = y.1 }) (went_over y.3), x.1.1, y.3)),
      λ a t c. carries_on (λ now. now) new refl c c.request c.interim c.sends refl,
    )
origin_changes limits uses lines more P None None o grows step h x = (o.received, o.sent, tt, λ a t c. c)
origin_changes limits uses lines more P old new o grows step h x = absurd h

-- bytes go over the origin's connection, or its input ends
changes_origin : (limits : Limits) (uses : Uses) (lines more : List Traffic)
    (P : OriginConnection → OriginConnection → Type 0) (old new : GatewayConnection) (p : Stream.Past) (o : Origin.Past)
    → ((t : Traffic) → WentOver t more → WentOver t uses.traffic)
    → ((before after : OriginConnection) → P before after → CarriesBytes limits old.origin lines more before after)
    → ChangesOrigin P old new → Held limits uses lines old p o → (n : Origin.Past) × Held limits uses more new p n
changes_origin limits uses lines more P old new p o grows step h held =
    let x = origin_changes limits uses lines more P old.origin new.origin o grows step h.0 held.0.3 in
    let tied = tied_on uses old.stage (parts_of old p o) new.origin o.now x.3 held.1 in
    let n : Origin.Past = record o { received = x.0; sent = x.1 } in (
      n,
      subst (λ (m : GatewayConnection). Held limits uses more m p n) (sym h.1)
          ((held.0.0, held.0.1, held.0.2, x.2), tied),
    )

origin_receives : (limits : Limits) (old : Option OriginConnection) (lines : List Traffic) (bytes : List ℕ)
    (before after : OriginConnection) → ReceivesOrigin bytes before after
    → CarriesBytes limits old lines (on_last (receives (is_origin_open old) bytes) lines) before after
origin_receives limits old lines bytes before after (inl h) = λ o older is r line. (
  o.received,
  o.sent,
  subst (λ (m : OriginConnection). Origin.IsReached limits m o) (sym h.1) r,
  ap (on_last (receives (is_origin_open old) bytes)) line
      ∙ ap (λ (b : Bool). receives b bytes (traffic_of o) ∷ older) (ap is_origin_open is ∙ ap not h.0),
)
origin_receives limits old lines bytes before after (inr h) = λ o older is r line. (
  o.received ++ bytes,
  o.sent,
  Origin.Received before after o bytes r h.0 h.1,
  ap (on_last (receives (is_origin_open old) bytes)) line
      ∙ ap (λ (b : Bool). receives b bytes (traffic_of o) ∷ older) (ap is_origin_open is ∙ ap not h.0),
)

origin_writes : (limits : Limits) (old : Option OriginConnection) (lines : List Traffic) (count : ℕ)
    (before after : OriginConnection) → HandsOutOrigin count before after
    → CarriesBytes limits old lines (on_last (writes (written_of count old)) lines) before after
origin_writes limits old lines count before after h = λ o older is r line. (
  o.received,
  o.sent ++ take (min count (length before.output.items)) before.output.items,
  Origin.Written before after o (min count (length before.output.items)) r
      (at_most count (length before.output.items)) h,
  ap (on_last (writes (written_of count old))) line
      ∙ ap (λ (m : Option OriginConnection). writes (written_of count m) (traffic_of o) ∷ older) is,
)

-- ---- histories

-- what was passed in before is among what was by now
abbrev Grows : Uses → Uses → Type 0
Grows old new = (new.peer ≡ old.peer) × ((r : GatewayRules) → IsIn r old.rules → IsIn r new.rules) × ((head : GivenHead)
    → IsIn head old.given → IsIn head new.given) × ((t : Traffic) → WentOver t old.traffic → WentOver t new.traffic)
    × ((a : Addition) → IsIn a old.added → IsIn a new.added)

on_last_grows : (f : Traffic → Traffic) → ((t all : Traffic) → IsFrontOf t all → IsFrontOf t (f all))
    → (lines : List Traffic) (t : Traffic) → WentOver t lines → WentOver t (on_last f lines)
on_last_grows f step [] t h = absurd h
on_last_grows f step (first ∷ older) t (inl h) = inl (step t first h)
on_last_grows f step (first ∷ older) t (inr h) = inr h

receives_front : (goes : Bool) (bytes : List ℕ) (t all : Traffic) → IsFrontOf t all
    → IsFrontOf t (receives goes bytes all)
receives_front true bytes t all h = (
  h.0 ++ bytes,
  sym (append_assoc t.received h.0 bytes) ∙ ap (λ (l : List ℕ). l ++ bytes) h.1,
  h.2,
  h.3,
)
receives_front false bytes t all h = h

writes_front : (bytes : List ℕ) (t all : Traffic) → IsFrontOf t all → IsFrontOf t (writes bytes all)
writes_front bytes t all h =
    (h.0, h.1, h.2 ++ bytes, sym (append_assoc t.sent h.2 bytes) ∙ ap (λ (l : List ℕ). l ++ bytes) h.3)

-- the parts were reached by calls of their own, and what they told is of one exchange
abbrev Run : Limits → Uses → List Traffic → GatewayConnection → List ℕ → List ℕ → Type 0
Run limits uses lines m received sent =
    (q : Stream.Past) × (n : Origin.Past) × Held limits uses lines m q n × (q.received ≡ received) × (q.sent ≡ sent)

on : {limits : Limits} {uses : Uses} {lines : List Traffic} {old new : GatewayConnection} {received sent : List ℕ}
    → Leads limits uses lines old new → Run limits uses lines old received sent
    → Run limits uses lines new received sent
on leads r = let x = leads.step r.0 r.1 r.2 in (x.0, x.1, x.2, x.3 ∙ r.3, x.4 ∙ r.4)

-- bytes of the client
same_served : {limits : Limits} {uses : Uses} {p : Stream.Past} (received sent : List ℕ) → Served limits uses p
    → Served limits uses (record p { received = received; sent = sent })
same_served received sent s = record { before = s.before; interim = s.interim; now = s.now }

runs : (limits : Limits) (uses : Uses) {m : GatewayConnection} {p : Past} → IsReached limits m p
    → Grows p.uses uses → Run limits uses p.uses.traffic m p.received p.sent
runs limits uses (Opened peer m new) g = (
  Stream.no_past,
  Origin.no_past,
  (
    (
      new.peer_is ∙ sym g.0,
      Stream.Opened m.client new.client,
      record { before = tt; interim = tt; now = tt },
      subst (λ (origin : Option OriginConnection). Origins limits uses [] origin Origin.no_past) (sym new.origin) tt,
    ),
    subst (λ (s : Stage). TiedAt uses s (parts_of m Stream.no_past Origin.no_past)) (sym new.stage) tt,
  ),
  refl,
  refl,
)
runs limits uses (Received old new p bytes before going h) g = let r = runs limits uses before g in
    let q : Stream.Past = record (r.0) { received = r.0.received ++ bytes } in
    let reached = Stream.Received old.client new.client r.0 bytes r.2.0.1 going h.0 in
    let x = after limits uses p.uses.traffic q h.1
    (q, r.1, ((r.2.0.0, reached, same_served q.received q.sent r.2.0.2, r.2.0.3), r.2.1), refl, refl) in
    (x.0, x.1, x.2, x.3 ∙ ap (λ (t : List ℕ). t ++ bytes) r.3, x.4 ∙ r.4)
runs limits uses (Finished old new p before h) g =
    on (finishes_client limits uses p.uses.traffic old new h) (runs limits uses before g)
runs limits uses (Written old new p count before within h) g = let r = runs limits uses before g in
    let q : Stream.Past = record (r.0) { sent = r.0.sent ++ take count old.client.output.items } in
    let reached = Stream.Written old.client new.client r.0 count r.2.0.1 within h.0 in
    let x = after limits uses p.uses.traffic q h.1
    (q, r.1, ((r.2.0.0, reached, same_served q.received q.sent r.2.0.2, r.2.0.3), r.2.1), refl, refl) in
    (x.0, x.1, x.2, x.3 ∙ r.3, x.4 ∙ ap (λ (t : List ℕ). t ++ take count old.client.output.items) r.4)
runs limits uses (OriginReceived old new p bytes before h) g =
    let f : (t : Traffic) → Traffic = receives (is_origin_open old.origin) bytes in
    let lines = p.uses.traffic in
    let r = runs limits uses before
    (g.0, g.1, g.2, λ t i. g.3 t (on_last_grows f (receives_front (is_origin_open old.origin) bytes) lines t i), g.4) in
    let x = changes_origin limits uses lines (on_last f lines) (ReceivesOrigin bytes) old new r.0 r.1 g.3
    (origin_receives limits old.origin lines bytes) h r.2 in (r.0, x.0, x.1, r.3, r.4)
runs limits uses (OriginFinished old new p before h) g =
    let r = runs limits uses before g in
    let x = changes_origin limits uses p.uses.traffic p.uses.traffic OriginSteps.Finishes old new r.0 r.1 g.3
    (λ before after is o older at reached line. (
      o.received,
      o.sent,
      Origin.Finished before after o reached is,
      line,
    )) h r.2 in
    (r.0, x.0, x.1, r.3, r.4)
runs limits uses (OriginWritten old new p count before h) g =
    let f : (t : Traffic) → Traffic = writes (written_of count old.origin) in
    let lines = p.uses.traffic in
    let r = runs limits uses before
    (g.0, g.1, g.2, λ t i. g.3 t (on_last_grows f (writes_front (written_of count old.origin)) lines t i), g.4) in
    let x = changes_origin limits uses lines (on_last f lines) (HandsOutOrigin count) old new r.0 r.1 g.3
    (origin_writes limits old.origin lines count) h r.2 in (r.0, x.0, x.1, r.3, r.4)
runs limits uses (Said old new p rules date event before h) g = on (says limits uses p.uses.traffic
    rules date old new event (g.1 rules (inl refl)) h) (runs limits uses before (
      g.0,
      λ r i. g.1 r (inr i),
      g.2,
      g.3,
      g.4,
    ))
runs limits uses (Sent old new p origin o watches before at reached h) g =
    let r = runs limits uses before (g.0, g.1, g.2, λ t i. g.3 t (inr i), g.4) in
    let w = tied_at limits uses p.uses.traffic old r.0 r.1 At.Asking at r.2 in
    let x = sends limits uses (traffic_of o ∷ p.uses.traffic) old new origin watches r.0 o w
    (r.2.0.0, r.2.0.1, r.2.0.2, tt) (reached, (g.3 (traffic_of o) (went_over refl), p.uses.traffic, refl)) h in
    (x.0, x.1, x.2, x.3 ∙ r.3, x.4 ∙ r.4)
runs limits uses (Conditioned old new p etags since before h) g =
    on (conditions limits uses p.uses.traffic etags since old new h) (runs limits uses before g)
runs limits uses (Answered old between new p status before settled h) g = on (answers_settled
    limits uses p.uses.traffic old between new (Because.Chosen status) settled h) (runs limits uses before g)
runs limits uses (Again old new p before h) g =
    on (asks_again limits uses p.uses.traffic old new h) (runs limits uses before g)
runs limits uses (Connected old new p before h) g =
    on (connects limits uses p.uses.traffic old new h) (runs limits uses before g)
runs limits uses (Given old new p status reason fields size before h) g =
    on (freely limits uses p.uses.traffic (gives limits uses p.uses.traffic old new status reason fields size
    (g.2 (record { status = status; reason = reason; fields = fields; size = size }) (inl refl)) h))
    (runs limits uses before (g.0, g.1, λ head i. g.2 head (inr i), g.3, g.4))
runs limits uses (GivenPiece old new p piece before at h) g =
    on (gives_piece limits uses p.uses.traffic old new piece at h.0 h.1) (runs limits uses before g)
runs limits uses (GivenEnd old new p trailers before h) g =
    on (gives_end limits uses p.uses.traffic old new trailers h) (runs limits uses before g)
runs limits uses (NotGiven old new p refusal error before h) g =
    on (refuses_in_giving limits uses p.uses.traffic old new refusal error h) (runs limits uses before g)
runs limits uses (NotBegun old new p status reason fields size error before h) g =
    on (refuses_giving limits uses p.uses.traffic old new status reason fields size error h) (runs limits uses before g)
runs limits uses (Added old new p h lines before a) g =
    on (adds limits uses p.uses.traffic h lines old new
    (g.4 (record { response = h.response; lines = lines }) (inl refl)) a)
    (runs limits uses before (g.0, g.1, g.2, g.3, λ a i. g.4 a (inr i)))
runs limits uses (Passed old new p before h) g =
    on (passes limits uses p.uses.traffic old new h) (runs limits uses before g)
runs limits uses (TimedOut old new p before h) g =
    on (times_out limits uses p.uses.traffic (phase_of old) old new h) (runs limits uses before g)
runs limits uses (Taken old new p origin before h) g =
    on (takes limits uses p.uses.traffic old new origin h) (runs limits uses before g)
runs limits uses (Dated old new p now before h) g =
    on (stays limits uses p.uses.traffic {old = old} h.2 (λ q n x. x)) (runs limits uses before g)
runs limits uses (Closing old new p before is) g =
    on (stays limits uses p.uses.traffic {old = old} is (λ q n x. x)) (runs limits uses before g)

origin_in : (limits : Limits) (uses : Uses) (lines : List Traffic) (origin : Option OriginConnection) (o : Origin.Past)
    → Origins limits uses lines origin o → OriginIn limits origin
origin_in limits uses lines (Some origin) o x = (o, x.0)
origin_in limits uses lines None o x = tt

pub record Ran (limits : Limits) (m : GatewayConnection) (p : Past) : Type 0 where
  pub client : Stream.Past
  pub reached : Stream.IsReached limits m.client client
  pub received : client.received ≡ p.received
  pub sent : client.sent ≡ p.sent
  pub served : Served limits p.uses client
  pub origin : OriginIn limits m.origin

pub run : {limits : Limits} {m : GatewayConnection} {p : Past} → IsReached limits m p → Ran limits m p
run {limits} {m} {p} reached =
    let r = runs limits p.uses reached (refl, λ r i. i, λ head i. i, λ t i. i, λ a i. i) in
    record {
      client = r.0;
      reached = r.2.0.1;
      received = r.3;
      sent = r.4;
      served = r.2.0.2;
      origin = origin_in limits p.uses p.uses.traffic m.origin r.1 r.2.0.3;
    }
