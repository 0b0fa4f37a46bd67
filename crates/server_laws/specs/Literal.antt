-- Requests and responses that are written out.
use Rattle.std.specs.Prelude.{◌≡◌, ℕ, List, [], ◌∷◌, ◌++◌, Option, Some, None, codes, decimal, true}
use Rattle.http.specs.{declared.request.Request.Request, Request.{body_of, head_of}}
use Rattle.{httparse.specs.Grammar.RequestHead, http_header.specs.FieldValue.plain_value}
use Rattle.{http_uri.specs.Uri.{uri_authority, uri_path, uri_query}, http1.specs.{Fields.Header, Head.request_head}}
use Rattle.http1.specs.{declared.framing.MethodKind.TheVariants.Other, Conn.keeps_alive, Framing.method_kind}
use Rattle.{http1.specs.Message.known_of, http1_typed.specs.Parts.version_of, headers.specs.Date.fixdate}
use Rattle.{server_service.specs.Answer.date_fields, server_connection.specs.declared.plan.ResponsePlan.ResponsePlan}
use Rattle.server_connection.specs.Encoding.{content_len, plan_fields}

-- a request for the root of a host, without content
abbrev pub request_text : List ℕ → List ℕ
request_text method = method ++ codes " / HTTP/1.1\r\nHost: a.example\r\n\r\n"

-- the head of such a text
abbrev pub root_head : List ℕ → RequestHead
root_head method = request_head method (codes "/") 1 ((codes "Host", codes "a.example") ∷ [])

-- the request that such a text is
pub record AsksForRoot (verb : List ℕ) (request : Request (List ℕ)) : Type 0 where
  pub method : (head_of request).method ≡ verb
  pub version : (head_of request).version ≡ version_of 1
  pub authority : uri_authority (head_of request).uri ≡ None
  pub path : uri_path (head_of request).uri ≡ codes "/"
  pub query : uri_query (head_of request).uri ≡ None
  pub headers : (head_of request).headers ≡ (codes "host", plain_value (codes "a.example") ∷ []) ∷ []
  pub body : body_of request ≡ []

-- ---- the response to it

-- a field line as it is sent
abbrev pub field_text : List ℕ → List ℕ → List ℕ
field_text name value = name ++ (codes ": " ++ (value ++ codes "\r\n"))

abbrev pub date_text : Option ℕ → List ℕ
date_text None = []
date_text (Some seconds) = field_text (codes "date") (fixdate seconds)

-- the fields of a 200 with this entity tag, length and media type, by a server that has this time
abbrev pub ok_fields : Option ℕ → List ℕ → ℕ → List ℕ → List Header
ok_fields now tag len media_type =
    date_fields now ++ ((codes "x-content-type-options", codes "nosniff") ∷ (codes "etag", tag)
    ∷ (codes "accept-ranges", codes "bytes") ∷ (codes "content-length", decimal len)
    ∷ (codes "content-type", media_type) ∷ [])

-- the head of a 200 with this entity tag, length and media type, by a server that has this time
abbrev pub ok_text : Option ℕ → List ℕ → ℕ → List ℕ → List ℕ
ok_text now tag len media_type =
    codes "HTTP/1.1 200 OK\r\n" ++ ((date_text now ++ (codes "x-content-type-options: nosniff\r\n"
    ++ (field_text (codes "etag") tag ++ (codes "accept-ranges: bytes\r\n"
    ++ (field_text (codes "content-length") (decimal len)
    ++ field_text (codes "content-type") media_type))))) ++ codes "\r\n")

-- the request is one of HTTP/1.1 that lets the connection stay open, and neither HEAD nor CONNECT
pub record StaysOpen (head : RequestHead) : Type 0 where
  pub minor : head.minor ≡ 1
  pub keeps : keeps_alive head.minor (known_of head.fields) ≡ true
  pub method : method_kind head.method ≡ Other

-- the plan is that of a 200 with these fields, which state the length of its content
pub record IsOk (now : Option ℕ) (tag media_type : List ℕ) (plan : ResponsePlan) : Type 0 where
  pub status : plan.status ≡ 200
  pub fields : plan_fields plan ≡ ok_fields now tag (content_len plan) media_type
