-- The known headers: the name of each, and how its field lines are decoded and encoded.
use Rattle.std.specs.Prelude.{ℕ, List, [], ◌∷◌, ◌++◌, codes}
use Rattle.http_header.specs.FieldValue.{FieldValue}
use Rattle.headers.specs.{AccessControlAllowCredentials.access_control_allow_credentials_grammar}
use Rattle.headers.specs.{AccessControlAllowOrigin.allow_origin_reads, AccessControlAllowOrigin.allow_origin_writes}
use Rattle.headers.specs.{AccessControlRequestMethod.request_method_reads}
use Rattle.headers.specs.{AccessControlRequestMethod.request_method_writes, CacheControlGrammar.cache_grammar}
use Rattle.headers.specs.{ContentLength.content_length_reads, ContentLength.content_length_writes}
use Rattle.headers.specs.{ContentRange.content_range_grammar, ContentType.ReadsType, ContentType.type_line}
use Rattle.headers.specs.{EntityTagRange.tags_grammar, Expect.expect_grammar, Host.host_reads, Host.host_writes}
use Rattle.headers.specs.{IfRange.if_range_grammar, Lines.Line, Merge.merged, Origin.origin_reads, Origin.origin_writes}
use Rattle.headers.specs.{Places.comma, Places.semicolon, Range.range_grammar, ReferrerPolicy.referrer_grammar}
use Rattle.headers.specs.{RetryAfter.retry_after_grammar, SecWebsocketVersion.sec_websocket_version_grammar}
use Rattle.headers.specs.{SetCookie.set_cookie_grammar, StrictTransportSecurityGrammar.security_grammar}
use Rattle.headers.specs.HeaderLaws.{Grammar, ReadsBy, written_by}
use Rattle.headers.specs.Shapes.{first_kept, only_date, only_number, only_tag, only_text}

-- a header: its field name in lower case, and how its field lines are decoded and encoded
pub record KnownHeader : Type 1 where
  pub name : List ℕ
  pub Value : Type 0
  pub reads : List Line → Value → Type 0
  pub writes : Value → List Line

-- a header by its grammar
abbrev pub by_grammar : {V A : Type 0} → List ℕ → Grammar V A → KnownHeader
by_grammar {V} name grammar = record { name = name; Value = V; reads = ReadsBy grammar; writes = written_by grammar }

abbrev pub by_lines : {V : Type 0} → List ℕ → (List Line → V → Type 0) → (V → List Line) → KnownHeader
by_lines {V} name reads writes = record { name = name; Value = V; reads = reads; writes = writes }

-- headers that are one encoding shape
abbrev pub number : List ℕ → KnownHeader
number name = by_grammar name (only_number {V = ℕ} (λ seconds. seconds))

abbrev pub date : List ℕ → KnownHeader
date name = by_grammar name (only_date {V = ℕ} (λ seconds. seconds))

abbrev pub first : List ℕ → KnownHeader
first name = by_grammar name (first_kept {V = FieldValue} (λ value. value.bytes))

abbrev pub text : List ℕ → KnownHeader
text name = by_grammar name (only_text {V = FieldValue} (λ value. value.bytes))

abbrev pub tag : List ℕ → KnownHeader
tag name = by_grammar name (only_tag {V = FieldValue} (λ value. value.bytes))

abbrev pub list : ℕ → List ℕ → KnownHeader
list separator name = by_grammar name (merged {V = Line} separator (λ value. value))

-- headers of caches and of conditions
abbrev pub caching_headers : List KnownHeader
caching_headers =
    number (codes "age")
    ∷ by_grammar (codes "cache-control") cache_grammar
    ∷ date (codes "expires")
    ∷ first (codes "pragma")
    ∷ list comma (codes "vary")
    ∷ tag (codes "etag")
    ∷ by_grammar (codes "if-match") tags_grammar
    ∷ date (codes "if-modified-since")
    ∷ by_grammar (codes "if-none-match") tags_grammar
    ∷ by_grammar (codes "if-range") if_range_grammar
    ∷ date (codes "if-unmodified-since")
    ∷ date (codes "last-modified")
    ∷ []

-- headers of the connection, of content and of its ranges
abbrev pub content_headers : List KnownHeader
content_headers =
    list comma (codes "connection")
    ∷ by_grammar (codes "expect") expect_grammar
    ∷ list comma (codes "te")
    ∷ list comma (codes "transfer-encoding")
    ∷ first (codes "upgrade")
    ∷ first (codes "content-disposition")
    ∷ list comma (codes "content-encoding")
    ∷ by_lines (codes "content-length") content_length_reads content_length_writes
    ∷ first (codes "content-location")
    ∷ by_lines (codes "content-type") ReadsType type_line
    ∷ list comma (codes "accept-ranges")
    ∷ by_grammar (codes "content-range") content_range_grammar
    ∷ by_grammar (codes "range") range_grammar
    ∷ []

-- headers of the context, of cookies and of hosts
abbrev pub context_headers : List KnownHeader
context_headers =
    list comma (codes "allow")
    ∷ date (codes "date")
    ∷ first (codes "location")
    ∷ text (codes "referer")
    ∷ by_grammar (codes "retry-after") retry_after_grammar
    ∷ text (codes "server")
    ∷ text (codes "user-agent")
    ∷ list semicolon (codes "cookie")
    ∷ by_grammar (codes "set-cookie") set_cookie_grammar
    ∷ by_lines (codes "host") host_reads host_writes
    ∷ by_lines (codes "origin") origin_reads origin_writes
    ∷ []

-- headers of cross-origin requests, of security and of WebSocket
abbrev pub security_headers : List KnownHeader
security_headers =
    by_grammar (codes "access-control-allow-credentials") access_control_allow_credentials_grammar
    ∷ list comma (codes "access-control-allow-headers")
    ∷ list comma (codes "access-control-allow-methods")
    ∷ by_lines (codes "access-control-allow-origin") allow_origin_reads allow_origin_writes
    ∷ list comma (codes "access-control-expose-headers")
    ∷ number (codes "access-control-max-age")
    ∷ list comma (codes "access-control-request-headers")
    ∷ by_lines (codes "access-control-request-method") request_method_reads request_method_writes
    ∷ by_grammar (codes "strict-transport-security") security_grammar
    ∷ by_grammar (codes "referrer-policy") referrer_grammar
    ∷ first (codes "sec-websocket-accept")
    ∷ first (codes "sec-websocket-key")
    ∷ by_grammar (codes "sec-websocket-version") sec_websocket_version_grammar
    ∷ []

abbrev pub known_headers : List KnownHeader
known_headers = caching_headers ++ content_headers ++ context_headers ++ security_headers
