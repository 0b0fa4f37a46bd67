-- What the decision reads of a request.
use Rattle.std.specs.Prelude.{◌≡◌, ◌≢◌, ◌⊎◌, ℕ, List, Option, Some, None}
use Rattle.http.specs.declared.{request.Request.Request, version.{TheConstants.Version.HTTP_10, Version.Version}}
use Rattle.{http.specs.Request.head_of, http_header.specs.FieldValue.IsFieldValue, http_uri.specs.Uri.uri_authority}
use Rattle.{headers.specs.{LineMap.lines_at, Lines.Line}, gateway_messages.specs.declared.protocol.Protocol.Protocol}
use Rattle.gateway_messages.specs.declared.protocol.Protocol.TheVariants.{Http10, Http11}
use Rattle.decide_resource.specs.Requests.{Request as Asked}
use Rattle.decide_resource.specs.declared.request.RequestContent.TheVariants.{Absent}

abbrev pub IsProtocolOf : Version → Protocol → Type 0
IsProtocolOf version protocol =
    ((version ≡ HTTP_10) × (protocol ≡ Http10)) ⊎ ((version ≢ HTTP_10) × (protocol ≡ Http11))

-- a text as the value of a field, if it is one
abbrev pub IsAuthority : List ℕ → Option Line → Type 0
IsAuthority text None = ¬ (IsFieldValue text)
IsAuthority text (Some line) = IsFieldValue text × (line ≡ text)

-- the authority of a target in absolute-form
abbrev pub HasAuthority : Option (List ℕ) → Option Line → Type 0
HasAuthority None line = line ≡ None
HasAuthority (Some text) line = IsAuthority text line

-- What the decision reads of a request. Content gives a read no other meaning (RFC 9110, section 9.3.1): it counts as
-- none. No request is denied.
pub record IsAsked (request : Request (List ℕ)) (authority : Option Line) (asked : Asked) : Type 0 where
  pub protocol : IsProtocolOf (head_of request).version asked.protocol
  pub method : asked.method ≡ (head_of request).method
  pub has_authority : asked.authority ≡ authority
  pub content : asked.content ≡ Absent
  pub fields : asked.fields ≡ lines_at (head_of request).headers
  pub admitted : asked.denied ≡ None

-- the request with the authority of its target
abbrev pub Asks : Request (List ℕ) → Asked → Type 0
Asks request asked =
    (authority : Option Line) × HasAuthority (uri_authority (head_of request).uri) authority
    × IsAsked request authority asked
