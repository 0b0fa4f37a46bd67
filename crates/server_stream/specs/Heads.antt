-- The head of a request, as a caller gets it, and the status of a rejection.
use Rattle.std.specs.Prelude.{◌≡◌, ⊤, ℕ, Bool, true, false, List, map}
use Rattle.httparse.specs.{Spans.{name_and_value, span_bytes}, declared.spans.HeaderSpan.HeaderSpan}
use Rattle.{httparse.specs.declared.spans.RequestSpans.RequestSpans, http.specs.declared.error.Error.Error}
use Rattle.http1.specs.{Conn.unread_size, Fields.Header, ReadError.status_of, ServerTrace.headers_at}
use Rattle.http1.specs.declared.{conn.BodySize.{BodySize, TheVariants.{Known, Unknown}}, framing.Framing.Framing}
use Rattle.{http1.specs.declared.server.Server.Server, gateway_connection.specs.Content.{HasNoMap, map_of}}
use Rattle.server_stream.specs.declared.{event.StreamRequest.StreamRequest, rejection.StreamRejection.StreamRejection}
use Rattle.httparse.specs.Grammar as Grammar
use Rattle.http.specs.declared.error.Error.TheVariants as Mapped
use Rattle.http1.specs.Server as Serving
use Rattle.http1.specs.declared.framing.Framing.TheVariants as Framed
use Rattle.server_stream.specs.declared.rejection.StreamRejection.TheVariants as Because

-- the size of the content, where it is known
abbrev pub content_size : Framing → BodySize
content_size Framed.NoBody = Known 0
content_size (Framed.Length len) = Known len
content_size Framed.Chunked = Unknown
content_size Framed.UntilClose = Unknown

-- the parts of a head of the grammar
abbrev pub told_of : Grammar.RequestHead → Framing → StreamRequest
told_of h framing = record {
  method = h.method;
  target = h.target;
  minor = h.minor;
  fields = map_of (map name_and_value h.fields);
  size = content_size framing;
  expects_continue = (Serving.request_of h framing).expects_continue;
}

-- the parts under the spans, and what the server knows of the request
pub record IsUnder (input : List ℕ) (spans : List HeaderSpan) (r : RequestSpans) (s : Server) (head : StreamRequest)
    : Type 0 where
  pub method : head.method ≡ span_bytes input r.method
  pub target : head.target ≡ span_bytes input r.path
  pub minor : head.minor ≡ r.version
  pub fields : head.fields ≡ map_of (headers_at input spans r.headers)
  pub size : head.size ≡ unread_size s.reading
  pub expects : head.expects_continue ≡ s.request.expects_continue
  pub plain : s.request.has_codings ≡ false

-- the reason that `http1_typed` tells
abbrev pub map_rejection : Error → StreamRejection
map_rejection Mapped.OutOfMemory = Because.OutOfMemory
map_rejection error = Because.InvalidFields

-- the fields have no map, or memory ran out
abbrev pub IsFieldsRejection : List Header → StreamRejection → Type 0
IsFieldsRejection fields Because.InvalidFields = HasNoMap fields
IsFieldsRejection fields Because.OutOfMemory = ⊤
IsFieldsRejection fields why = ⊥

-- the head has an unknown coding, or its fields have no map, or memory ran out
abbrev pub IsHeadRejection : Bool → List Header → StreamRejection → Type 0
IsHeadRejection has_codings fields Because.UnknownCoding = has_codings ≡ true
IsHeadRejection has_codings fields why = IsFieldsRejection fields why

-- the status of a response that says why
abbrev pub rejection_status : StreamRejection → ℕ
rejection_status (Because.Malformed error) = status_of error
rejection_status Because.CutShort = 400
rejection_status Because.UnknownCoding = 501
rejection_status Because.InvalidFields = 431
rejection_status Because.OutOfMemory = 500
