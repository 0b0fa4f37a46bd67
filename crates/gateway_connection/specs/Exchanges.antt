-- Exchanges: requests literally, and the responses to them by the grammar.
use Rattle.std.specs.Prelude.{◌≡◌, ◌≢◌, ℕ, Bool, true, false, List, [], ◌∷◌, ◌++◌, map, Option, Some, None, Result, Ok}
use Rattle.{std.specs.Prelude.{Err, IsTrue}, httparse.specs.Spans.name_and_value}
use Rattle.{http_header.specs.{FieldValue.FieldValue, HeaderMap.Entries}, http1.specs.{Body.Body, Client.is_interim}}
use Rattle.http1.specs.{Client.plan_fields, Decoder.{Completes, IsLive, with_front}, Conn.{Plan, keeps_alive}}
use Rattle.http1.specs.{Conn.planned_headers, Fields.Header, Encoder.{encoder_for, end_text}, Framing.method_kind}
use Rattle.http1.specs.{Head.request_text, Message.{AcceptsResponse, ReadsResponseMessage, known_of}}
use Rattle.http1.specs.declared.{conn.{BodySize.BodySize, Limits.Limits}, decode.Decoder.Decoder}
use Rattle.http1.specs.declared.{encode.Encoder.Encoder, error.WriteError.WriteError, framing.MethodKind.MethodKind}
use Rattle.http1.specs.Message as Message
use Rattle.http1.specs.declared.encode.Encoder.TheVariants as Encodes
use Rattle.gateway_connection.specs.Content.{after_pieces, map_of, pieces_text}
use Rattle.gateway_connection.specs.{Responses.response_of, declared.event.OriginResponse.OriginResponse}

-- ---- requests

-- a request: the head, the pieces of its content that were put, and the trailer fields once it was ended
pub record Request : Type 0 where
  pub method : List ℕ
  pub target : List ℕ
  pub headers : List Header
  pub size : BodySize
  pub pieces : List (List ℕ)
  pub trailers : Option (List Header)

-- how `http1` sends it
abbrev pub plan_of : Request → Result Plan WriteError
plan_of r = plan_fields (method_kind r.method) r.size r.headers

abbrev pub encoder_in : Result Plan WriteError → Encoder
encoder_in (Ok plan) = encoder_for plan.framing
encoder_in (Err error) = Encodes.Length 0

abbrev pub keeps_in : Result Plan WriteError → Bool
keeps_in (Ok plan) = plan.keep_alive
keeps_in (Err error) = false

-- what ends the content, once it was ended
abbrev pub last_text : Encoder → Option (List Header) → List ℕ
last_text e None = []
last_text e (Some trailers) = end_text e trailers

abbrev pub head_text : Request → List ℕ
head_text r = request_text r.method r.target 1 (planned_headers (plan_of r) r.headers)

-- all that was put of a request, literally
abbrev pub request_bytes : Request → List ℕ
request_bytes r =
    let e = encoder_in (plan_of r) in
    head_text r ++ (pieces_text r.pieces e ++ last_text (after_pieces r.pieces e) r.trailers)

-- ---- responses

-- a whole response, as a caller gets it
pub record Told : Type 0 where
  pub response : OriginResponse
  pub content : List ℕ
  pub trailers : Entries FieldValue

abbrev pub told_of : Message.Response → Told
told_of m = record {
  response = response_of m.head;
  content = m.body.bytes;
  trailers = map_of (map name_and_value m.body.trailers);
}

-- the stream begins with these interim responses to a request with this method
abbrev pub ReadsInterim : Limits → MethodKind → List ℕ → List OriginResponse → List ℕ → Type 0
ReadsInterim limits method stream [] rest = stream ≡ rest
ReadsInterim limits method stream (first ∷ later) rest =
    (m : Message.Response) × (after : List ℕ) × ReadsResponseMessage limits method stream m after
    × (first ≡ response_of m.head) × IsTrue (is_interim first.status) × ReadsInterim limits method after later rest

-- a request, and the responses to it
pub record Exchange : Type 0 where
  pub request : Request
  pub interim : List OriginResponse
  pub final : Told

-- the stream begins with the responses of the exchange, of which this is the final one
pub record ReadsExchange (limits : Limits) (stream : List ℕ) (e : Exchange) (m : Message.Response) (rest : List ℕ)
    : Type 0 where
  pub between : List ℕ
  pub interim : ReadsInterim limits (method_kind e.request.method) stream e.interim between
  pub final : ReadsResponseMessage limits (method_kind e.request.method) between m rest

-- the request was sent whole, and neither side closes the connection after it
pub record IsKept (r : Request) (m : Message.Response) : Type 0 where
  pub whole : r.trailers ≢ None
  pub request : keeps_in (plan_of r) ≡ true
  pub response : keeps_alive m.head.minor (known_of m.head.fields) ≡ true

-- the stream begins with the responses of these exchanges, after each of which the connection was kept
abbrev pub ReadsKept : Limits → List ℕ → List Exchange → List ℕ → Type 0
ReadsKept limits stream [] rest = stream ≡ rest
ReadsKept limits stream (e ∷ later) rest =
    (m : Message.Response) × (after : List ℕ) × ReadsExchange limits stream e m after × (e.final ≡ told_of m)
    × IsKept e.request m × ReadsKept limits after later rest

-- After these bytes of a body, of which the last are unread, its content so far is this, and the decoder waits for the
-- remainder: whatever completes the one completes the other.
pub record IsFront (first : Decoder) (bytes : List ℕ) (now : Decoder) (unread content : List ℕ) : Type 0 where
  pub live : IsLive now
  pub back : (more : List ℕ) (body : Body) (rest : List ℕ) → Completes now (unread ++ more) body rest
      → Completes first (bytes ++ more) (with_front content body) rest
  pub forth : (more : List ℕ) (whole : Body) (rest : List ℕ) → Completes first (bytes ++ more) whole rest
      → (body : Body) × (whole ≡ with_front content body) × Completes now (unread ++ more) body rest
