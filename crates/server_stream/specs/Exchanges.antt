-- Exchanges: requests by the grammar, and the responses to them literally.
use Rattle.std.specs.Prelude.{◌≡◌, ◌≢◌, ⊤, ℕ, true, List, [], ◌∷◌, ◌++◌, map, Option, None, Result}
use Rattle.{httparse.specs.Spans.name_and_value, http_header.specs.{FieldValue.FieldValue, HeaderMap.Entries}}
use Rattle.http1.specs.{Conn.{Plan, keeps_alive, planned_headers}, Fields.Header, Framing.method_kind}
use Rattle.http1.specs.{Head.response_text, Message.{AcceptsRequest, ReadsRequestMessage, known_of}}
use Rattle.http1.specs.declared.{conn.{BodySize.BodySize, Limits.Limits}, error.WriteError.WriteError}
use Rattle.{http1.specs.declared.framing.Framing.Framing, gateway_connection.specs.Content.{after_pieces, map_of}}
use Rattle.gateway_connection.specs.{Content.pieces_text, Exchanges.{encoder_in, keeps_in, last_text}}
use Rattle.server_stream.specs.{Heads.told_of, declared.event.StreamRequest.StreamRequest}
use Rattle.httparse.specs.Grammar as Grammar
use Rattle.http1.specs.Message as Message
use Rattle.http1.specs.Server as Serving
use Rattle.http1.specs.declared.server.Request as Known

-- ---- responses

-- a response without content: an interim one, or the one that ends HTTP on the connection
pub record Bare : Type 0 where
  pub minor : ℕ
  pub status : ℕ
  pub reason : List ℕ
  pub headers : List Header

abbrev pub bare_text : Bare → List ℕ
bare_text b = response_text b.minor b.status b.reason b.headers

abbrev pub bare_texts : List Bare → List ℕ
bare_texts [] = []
bare_texts (b ∷ later) = bare_text b ++ bare_texts later

-- a final response: what `http1` knew of the request when it began, its head, the pieces of its content that were put,
-- and the trailer fields once it was ended
pub record Response : Type 0 where
  pub asked : Known.Request
  pub status : ℕ
  pub reason : List ℕ
  pub headers : List Header
  pub size : BodySize
  pub pieces : List (List ℕ)
  pub trailers : Option (List Header)

-- how `http1` sends it
abbrev pub plan_of : Response → Result Plan WriteError
plan_of r = Serving.plan_fields r.asked r.status r.size r.headers

abbrev pub head_text : Response → List ℕ
head_text r = response_text r.asked.minor r.status r.reason (planned_headers (plan_of r) r.headers)

-- all that was put of a response, literally
abbrev pub response_bytes : Response → List ℕ
response_bytes r =
    let e = encoder_in (plan_of r) in
    head_text r ++ (pieces_text r.pieces e ++ last_text (after_pieces r.pieces e) r.trailers)

-- the final response now: it is due, or it was begun, or it ended HTTP on the connection
pub data Final : Type 0 where
  Due : Final
  Begun : Response → Final
  Switched : Bare → Final

abbrev pub final_text : Final → List ℕ
final_text Due = []
final_text (Begun r) = response_bytes r
final_text (Switched b) = bare_text b

-- the interim responses and the final one
pub record Answer : Type 0 where
  pub interim : List Bare
  pub final : Final

abbrev pub no_answer : Answer
no_answer = record { interim = []; final = Due }

abbrev pub answer_text : Answer → List ℕ
answer_text a = bare_texts a.interim ++ final_text a.final

-- ---- requests

-- What `http1` knew is of the request with this head. It may know that it doesn't keep the connection, since what
-- followed was rejected, and that its client no longer waits for 100 (Continue).
pub record IsOf (asked : Known.Request) (h : Grammar.RequestHead) (framing : Framing) : Type 0 where
  pub method : asked.method ≡ method_kind h.method
  pub minor : asked.minor ≡ h.minor
  pub keeps : asked.keep_alive ≡ true → keeps_alive h.minor (known_of h.fields) ≡ true
  pub waits : asked.expects_continue ≡ true → (Serving.request_of h framing).expects_continue ≡ true

-- a final response is framed for the request with this head
abbrev pub IsFramedFor : Final → Grammar.RequestHead → Framing → Type 0
IsFramedFor Due h framing = ⊤
IsFramedFor (Begun r) h framing = IsOf r.asked h framing
IsFramedFor (Switched b) h framing = b.minor ≡ h.minor

-- a request as a caller was told it, and the responses to it
pub record Exchange : Type 0 where
  pub head : StreamRequest
  pub content : List ℕ
  pub trailers : Entries FieldValue
  pub interim : List Bare
  pub response : Response

abbrev pub exchange_text : Exchange → List ℕ
exchange_text e = bare_texts e.interim ++ response_bytes e.response

-- The stream begins with the request of the exchange. The response was put whole, framed for this request, and neither
-- side closes the connection after it.
pub record ReadsExchange (limits : Limits) (stream : List ℕ) (e : Exchange) (rest : List ℕ) : Type 0 where
  pub message : Message.Request
  pub reads : ReadsRequestMessage limits stream message rest
  pub head : e.head ≡ told_of message.head reads.framing
  pub content : e.content ≡ message.body.bytes
  pub trailers : e.trailers ≡ map_of (map name_and_value message.body.trailers)
  pub framed : IsOf e.response.asked message.head reads.framing
  pub whole : e.response.trailers ≢ None
  pub kept : keeps_in (plan_of e.response) ≡ true

-- the stream begins with the requests of these exchanges, after each of which the connection was kept
abbrev pub ReadsKept : Limits → List ℕ → List Exchange → List ℕ → Type 0
ReadsKept limits stream [] rest = stream ≡ rest
ReadsKept limits stream (e ∷ later) rest =
    (after : List ℕ) × ReadsExchange limits stream e after × ReadsKept limits after later rest
