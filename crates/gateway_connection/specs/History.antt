-- Every history of calls on a connection, and what is true after it.
use Rattle.std.specs.Prelude.{◌≡◌, ℕ, ◌≤◌, Bool, true, false, List, [], ◌∷◌, ◌++◌, length, take, Some, None}
use Rattle.{httparse.specs.Grammar.ResponseHead, http1.specs.{Decoder.decoder_for, Fields.Header, Framing.method_kind}}
use Rattle.http1.specs.{Message.AcceptsResponse, declared.conn.{BodySize.BodySize, Limits.Limits}}
use Rattle.http1.specs.declared.{decode.Decoder.Decoder, framing.{Framing.Framing, MethodKind.MethodKind}}
use Rattle.http1.specs.Message as Message
use Rattle.gateway_connection.specs.Exchanges.{Exchange, IsFront, ReadsExchange, ReadsInterim, ReadsKept, Request}
use Rattle.gateway_connection.specs.{Exchanges.{request_bytes, told_of}, Responses.response_of}
use Rattle.gateway_connection.specs.declared.event.{OriginEvent.OriginEvent, OriginResponse.OriginResponse}
use Rattle.gateway_connection.specs.{declared.origin.OriginConnection.OriginConnection, Steps.{Begins, Ends, Finishes}}
use Rattle.gateway_connection.specs.Steps.{HandsOut, IsNew, Puts, PutsNothing, Receives, Says}
use Rattle.gateway_connection.specs.declared.event.OriginEvent.TheVariants as Is

-- what was said of the exchange now: nothing was sent yet; or a request was, and these interim responses came; or the
-- head of the final response did, and this content; or the exchange is over
pub data Now : Type 0 where
  Fresh : Now
  Asked : Request → List OriginResponse → Now
  Hears : Request → List OriginResponse → OriginResponse → List ℕ → Now
  Over : Exchange → Now

pub record Past : Type 0 where
  -- the bytes that were received and written
  pub received : List ℕ
  pub sent : List ℕ
  -- the exchanges before the one now
  pub before : List Exchange
  pub now : Now

abbrev pub no_past : Past
no_past = record { received = []; sent = []; before = []; now = Fresh }

-- ---- requests

abbrev pub is_over : Now → List Exchange
is_over Fresh = []
is_over (Asked r interim) = []
is_over (Hears r interim response content) = []
is_over (Over e) = e ∷ []

abbrev pub asks : List ℕ → List ℕ → List Header → BodySize → Request
asks method target headers size = record {
  method = method;
  target = target;
  headers = headers;
  size = size;
  pieces = [];
  trailers = None;
}

-- the request of the exchange now goes on
abbrev pub change : (Request → Request) → Now → Now
change f Fresh = Fresh
change f (Asked r interim) = Asked (f r) interim
change f (Hears r interim response content) = Hears (f r) interim response content
change f (Over e) = Over e

abbrev pub with_piece : List ℕ → Request → Request
with_piece piece r = record r { pieces = r.pieces ++ piece ∷ [] }

abbrev pub with_trailers : List Header → Request → Request
with_trailers trailers r = record r { trailers = Some trailers }

-- the literal text of requests, in order
abbrev pub texts : List Exchange → List ℕ
texts [] = []
texts (e ∷ later) = request_bytes e.request ++ texts later

abbrev pub now_text : Now → List ℕ
now_text Fresh = []
now_text (Asked r interim) = request_bytes r
now_text (Hears r interim response content) = request_bytes r
now_text (Over e) = request_bytes e.request

-- ---- responses

-- the exchange now, after this was said
abbrev pub tell : OriginEvent → Now → Now
tell (Is.Interim response) (Asked r interim) = Asked r (interim ++ response ∷ [])
tell (Is.Head response) (Asked r interim) = Hears r interim response []
tell (Is.Switched response) (Asked r interim) = Over (record {
  request = r;
  interim = interim;
  final = record { response = response; content = []; trailers = [] };
})
tell (Is.Content piece) (Hears r interim response content) = Hears r interim response (content ++ piece)
tell (Is.End trailers) (Hears r interim response content) = Over (record {
  request = r;
  interim = interim;
  final = record { response = response; content = content; trailers = trailers };
})
tell event now = now

-- ---- histories

-- a history of calls led to this connection, and this was received, written, put and said in it
pub data IsReached (limits : Limits) : OriginConnection → Past → Type 0 where
  Opened : (m : OriginConnection) → IsNew limits m → IsReached limits m no_past
  Received : (old new : OriginConnection) (p : Past) (bytes : List ℕ) → IsReached limits old p → old.ended ≡ false
      → Receives old bytes new → IsReached limits new (record p { received = p.received ++ bytes })
  Finished : (old new : OriginConnection) (p : Past) → IsReached limits old p → Finishes old new
      → IsReached limits new p
  Begun : (old new : OriginConnection) (p : Past) (method target : List ℕ) (headers : List Header) (size : BodySize)
      → IsReached limits old p → Begins old method target headers size new
      → IsReached limits new
      (record p { before = p.before ++ is_over p.now; now = Asked (asks method target headers size) [] })
  Put : (old new : OriginConnection) (p : Past) (piece : List ℕ) → IsReached limits old p → Puts old piece new
      → IsReached limits new (record p { now = change (with_piece piece) p.now })
  Closed : (old new : OriginConnection) (p : Past) (trailers : List Header) → IsReached limits old p
      → Ends old trailers new → IsReached limits new (record p { now = change (with_trailers trailers) p.now })
  Refused : (old new : OriginConnection) (p : Past) → IsReached limits old p → PutsNothing old new
      → IsReached limits new p
  Written : (old new : OriginConnection) (p : Past) (count : ℕ) → IsReached limits old p
      → count ≤ length old.output.items → HandsOut old count new
      → IsReached limits new (record p { sent = p.sent ++ take count old.output.items })
  Said : (old new : OriginConnection) (p : Past) (event : OriginEvent) → IsReached limits old p → Says old event new
      → IsReached limits new (record p { now = tell event p.now })

-- ---- what is true after every history

-- what may follow what was received
abbrev pub MayFollow : Bool → List ℕ → Type 0
MayFollow ended more = ended ≡ true → more ≡ []

-- the head of the final response came, and this content of it
pub record IsHeard (limits : Limits) (ended : Bool) (start : List ℕ) (method : MethodKind)
    (interim : List OriginResponse) (response : OriginResponse) (content unread : List ℕ) : Type 0 where
  pub at : List ℕ
  pub came : (more : List ℕ) → MayFollow ended more
      → ReadsInterim limits method (start ++ more) interim (at ++ more)
  pub head : ResponseHead
  pub framing : Framing
  pub after : List ℕ
  pub accepts : (more : List ℕ) → AcceptsResponse limits method (at ++ more) head framing (after ++ more)
  pub told : response ≡ response_of head
  pub decoder : Decoder
  pub front : IsFront (decoder_for limits framing) after decoder unread content

-- the exchange is over, and these are its responses
pub record IsOver (limits : Limits) (ended : Bool) (start : List ℕ) (e : Exchange) (unread : List ℕ) : Type 0 where
  pub final : Message.Response
  pub told : e.final ≡ told_of final
  pub reads : (more : List ℕ) → MayFollow ended more
      → ReadsExchange limits (start ++ more) e final (unread ++ more)

-- What was said of the exchange now is what the grammar finds in the stream from its start on, of which this is unread.
abbrev pub IsTold : Limits → Bool → List ℕ → Now → List ℕ → Type 0
IsTold limits ended start Fresh unread = start ≡ unread
IsTold limits ended start (Asked r interim) unread =
    (more : List ℕ) → MayFollow ended more
    → ReadsInterim limits (method_kind r.method) (start ++ more) interim (unread ++ more)
IsTold limits ended start (Hears r interim response content) unread =
    IsHeard limits ended start (method_kind r.method) interim response content unread
IsTold limits ended start (Over e) unread = IsOver limits ended start e unread

-- The theorem. What was written is a first part of the requests, literally and in order. What was received begins with
-- the responses of the exchanges before, each matched with its own request, after each of which the connection was
-- kept; and then with those that were told of the exchange now, as far as they were. Unless the connection failed, what
-- is unread is the input.
pub record Exchanged (limits : Limits) (m : OriginConnection) (p : Past) : Type 0 where
  pub written : p.sent ++ m.output.items ≡ texts p.before ++ now_text p.now
  pub start : List ℕ
  pub before : (more : List ℕ) → MayFollow m.ended more
      → ReadsKept limits (p.received ++ more) p.before (start ++ more)
  pub unread : List ℕ
  pub now : IsTold limits m.ended start p.now unread
  pub left : m.fault ≡ None → unread ≡ m.input.items
