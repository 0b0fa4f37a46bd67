-- Every history of calls on a connection, and what is true after it.
use Rattle.std.specs.Prelude.{◌≡◌, ⊤, ℕ, ◌≤◌, true, false, List, [], ◌∷◌, ◌++◌, length, map, take, Some, None}
use Rattle.{httparse.specs.Spans.name_and_value, http_header.specs.{FieldValue.FieldValue, HeaderMap.Entries}}
use Rattle.http1.specs.{Body.{Body, ReadsBody}, Decoder.decoder_for, Fields.Header, Message.AcceptsRequest}
use Rattle.http1.specs.declared.{conn.{BodySize.BodySize, Limits.Limits}, decode.Decoder.Decoder}
use Rattle.http1.specs.{declared.{framing.Framing.Framing, server.Server.Server}, Server.may_respond}
use Rattle.gateway_connection.specs.{Content.{after_pieces, map_of}, Exchanges.{IsFront, encoder_in}}
use Rattle.server_stream.specs.Exchanges.{Answer, Bare, Begun, Due, Exchange, Final, IsFramedFor, ReadsKept, Response}
use Rattle.server_stream.specs.{Exchanges.{Switched, answer_text, exchange_text, no_answer, plan_of}, Heads.told_of}
use Rattle.server_stream.specs.declared.connection.StreamConnection.{StreamConnection}
use Rattle.server_stream.specs.{declared.event.{StreamRequest.StreamRequest, StreamEvent.StreamEvent}, Steps.Ends}
use Rattle.server_stream.specs.Steps.{Finishes, HandsOut, Informs, IsNew, Puts, PutsNothing, Receives, Responds, Says}
use Rattle.server_stream.specs.Steps.{Switches}
use Rattle.httparse.specs.Grammar as Grammar
use Rattle.http1.specs.declared.conn.Writing.TheVariants as Writes
use Rattle.server_stream.specs.declared.event.StreamEvent.TheVariants as Is

-- what was told of the request now: nothing; or its head, and this content; or all of it
pub data Heard : Type 0 where
  Nothing : Heard
  Part : StreamRequest → List ℕ → Heard
  Whole : StreamRequest → List ℕ → Entries FieldValue → Heard

pub record Past : Type 0 where
  -- the bytes that were received and written
  pub received : List ℕ
  pub sent : List ℕ
  -- the exchanges before the one now
  pub before : List Exchange
  -- the request now, and the responses that were put to it, or to what was rejected in its place
  pub heard : Heard
  pub answer : Answer

abbrev pub no_past : Past
no_past = record { received = []; sent = []; before = []; heard = Nothing; answer = no_answer }

-- ---- requests

-- the exchange now, if it is over
abbrev pub over_with : StreamRequest → List ℕ → Entries FieldValue → List Bare → Final → List Exchange
over_with head content trailers interim (Begun r) = record {
  head = head;
  content = content;
  trailers = trailers;
  interim = interim;
  response = r;
} ∷ []
over_with head content trailers interim final = []

abbrev pub over : Heard → Answer → List Exchange
over (Whole head content trailers) a = over_with head content trailers a.interim a.final
over heard a = []

-- the next request, after the exchange now
abbrev pub next_past : Heard → Past → Past
next_past heard p = record p { before = p.before ++ over p.heard p.answer; heard = heard; answer = no_answer }

abbrev pub with_content : List ℕ → Heard → Heard
with_content piece (Part head content) = Part head (content ++ piece)
with_content piece heard = heard

abbrev pub with_end : Entries FieldValue → Heard → Heard
with_end trailers (Part head content) = Whole head content trailers
with_end trailers heard = heard

-- what is rejected is of the request now, or follows it
abbrev pub reject_at : Heard → Past → Past
reject_at (Whole head content trailers) p = next_past Nothing p
reject_at heard p = p

-- the past, after this was said
abbrev pub tell : StreamEvent → Past → Past
tell (Is.Head head) p = next_past (Part head []) p
tell (Is.Content piece) p = record p { heard = with_content piece p.heard }
tell (Is.End trailers) p = record p { heard = with_end trailers p.heard }
tell (Is.Rejected why) p = reject_at p.heard p
tell event p = p

-- ---- responses

abbrev pub informs : Bare → Past → Past
informs b p = record p { answer = record (p.answer) { interim = p.answer.interim ++ b ∷ [] } }

abbrev pub answers : Final → Past → Past
answers final p = record p { answer = record (p.answer) { final = final } }

abbrev pub begins : Server → ℕ → List ℕ → List Header → BodySize → Response
begins s status reason headers size = record {
  asked = s.request;
  status = status;
  reason = reason;
  headers = headers;
  size = size;
  pieces = [];
  trailers = None;
}

-- the final response goes on
abbrev pub change : (Response → Response) → Final → Final
change f (Begun r) = Begun (f r)
change f final = final

abbrev pub with_piece : List ℕ → Response → Response
with_piece piece r = record r { pieces = r.pieces ++ piece ∷ [] }

abbrev pub with_trailers : List Header → Response → Response
with_trailers trailers r = record r { trailers = Some trailers }

-- the literal text of exchanges, in order
abbrev pub texts : List Exchange → List ℕ
texts [] = []
texts (e ∷ later) = exchange_text e ++ texts later

-- ---- histories

-- a history of calls led to this connection, and this was received, written, put and said in it
pub data IsReached (limits : Limits) : StreamConnection → Past → Type 0 where
  Opened : (m : StreamConnection) → IsNew limits m → IsReached limits m no_past
  Received : (old new : StreamConnection) (p : Past) (bytes : List ℕ) → IsReached limits old p → old.ended ≡ false
      → Receives old bytes new → IsReached limits new (record p { received = p.received ++ bytes })
  Finished : (old new : StreamConnection) (p : Past) → IsReached limits old p → Finishes old new
      → IsReached limits new p
  Informed : (old new : StreamConnection) (p : Past) (status : ℕ) (reason : List ℕ) (headers : List Header)
      → IsReached limits old p → Informs old status reason headers new
      → IsReached limits new
      (informs (record { minor = 1; status = status; reason = reason; headers = headers }) p)
  Responded : (old new : StreamConnection) (p : Past) (status : ℕ) (reason : List ℕ) (headers : List Header)
      (size : BodySize) → IsReached limits old p → Responds old status reason headers size new
      → IsReached limits new (answers (Begun (begins old.server status reason headers size)) p)
  Handed : (old new : StreamConnection) (p : Past) (status : ℕ) (reason : List ℕ) (headers : List Header)
      → IsReached limits old p → Switches old status reason headers new
      → IsReached limits new (answers (Switched (record {
        minor = old.server.request.minor;
        status = status;
        reason = reason;
        headers = headers;
      })) p)
  Put : (old new : StreamConnection) (p : Past) (piece : List ℕ) → IsReached limits old p → Puts old piece new
      → IsReached limits new (answers (change (with_piece piece) p.answer.final) p)
  Ended : (old new : StreamConnection) (p : Past) (trailers : List Header) → IsReached limits old p
      → Ends old trailers new → IsReached limits new (answers (change (with_trailers trailers) p.answer.final) p)
  Refused : (old new : StreamConnection) (p : Past) → IsReached limits old p → PutsNothing old new
      → IsReached limits new p
  Written : (old new : StreamConnection) (p : Past) (count : ℕ) → IsReached limits old p
      → count ≤ length old.output.items → HandsOut old count new
      → IsReached limits new (record p { sent = p.sent ++ take count old.output.items })
  Said : (old new : StreamConnection) (p : Past) (event : StreamEvent) → IsReached limits old p → Says old event new
      → IsReached limits new (tell event p)

-- ---- what is true after every history

-- the head of a request came, and this content of it
pub record IsPart (limits : Limits) (start : List ℕ) (told : StreamRequest) (content unread : List ℕ) (final : Final)
    : Type 0 where
  pub head : Grammar.RequestHead
  pub framing : Framing
  pub after : List ℕ
  pub accepts : (more : List ℕ) → AcceptsRequest limits (start ++ more) head framing (after ++ more)
  pub parts : told ≡ told_of head framing
  pub framed : IsFramedFor final head framing
  pub decoder : Decoder
  pub front : IsFront (decoder_for limits framing) after decoder unread content

-- a request came whole
pub record IsWhole (limits : Limits) (start : List ℕ) (told : StreamRequest) (content : List ℕ)
    (trailers : Entries FieldValue) (unread : List ℕ) (final : Final) : Type 0 where
  pub head : Grammar.RequestHead
  pub framing : Framing
  pub after : List ℕ
  pub accepts : (more : List ℕ) → AcceptsRequest limits (start ++ more) head framing (after ++ more)
  pub parts : told ≡ told_of head framing
  pub framed : IsFramedFor final head framing
  pub body : Body
  pub reads : (more : List ℕ) → ReadsBody limits framing (after ++ more) body (unread ++ more)
  pub bytes : content ≡ body.bytes
  pub fields : trailers ≡ map_of (map name_and_value body.trailers)

-- What was told of the request now is what the grammar finds in the stream from its start on, of which this is unread.
-- The final response, if it was begun, is framed for this request.
abbrev pub IsTold : Limits → List ℕ → Heard → Final → List ℕ → Type 0
IsTold limits start Nothing final unread = start ≡ unread
IsTold limits start (Part head content) final unread = IsPart limits start head content unread final
IsTold limits start (Whole head content trailers) final unread =
    IsWhole limits start head content trailers unread final

-- what may be put: a final response if a request was told and none was begun, and content as the encoder of a
-- response that isn't ended takes it
abbrev pub MayPut : Server → Final → Heard → Type 0
MayPut s Due Nothing = ⊤
MayPut s Due heard = may_respond s ≡ true
MayPut s (Begun r) heard =
    r.trailers ≡ None → s.writing ≡ Writes.Body (after_pieces r.pieces (encoder_in (plan_of r)))
MayPut s (Switched b) heard = ⊤

-- The theorem. What was written, and then what waits in the output, is the responses of the exchanges before and then
-- those to the request now, as far as they were put, literally and in order. What was received begins with the requests
-- of the exchanges before, each with its own response, after each of which the connection was kept; and then with what
-- was told of the request now. Unless the connection was rejected, what is unread is the input.
pub record Exchanged (limits : Limits) (m : StreamConnection) (p : Past) : Type 0 where
  pub written : p.sent ++ m.output.items ≡ texts p.before ++ answer_text p.answer
  pub start : List ℕ
  pub before : (more : List ℕ) → ReadsKept limits (p.received ++ more) p.before (start ++ more)
  pub unread : List ℕ
  pub now : IsTold limits start p.heard p.answer.final unread
  pub left : m.fault ≡ None → unread ≡ m.input.items
  pub puts : MayPut m.server p.answer.final p.heard
