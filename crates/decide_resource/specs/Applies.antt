-- When a reason applies to a request (RFC 9110).
use Rattle.std.specs.Prelude.{ℕ, ◌+◌, ◌==◌, Bool, true, false, not, ◌&&◌, ◌||◌, List, [], ◌∷◌, ◌++◌, Option, Some, None}
use Rattle.std.specs.Prelude.{bytes_eq, codes, drop, find, flat_map, is_some, length, nat_le, nat_lt, option_and_then}
use Rattle.std.specs.{Prelude.{if◌then◌else◌, take}, Char.is_ascii_digit, List.{list_all, list_any}}
use Rattle.{std.specs.Option.{option_map_or, option_zip}, http_header.specs.FieldValue.FieldValue}
use Rattle.{rfc_values.specs.Calendar.unix_epoch, headers.specs.{LineMap.{LineMap, lines_at}, Lines.Line}}
use Rattle.{headers.specs.Lines.only_line, gateway_messages.specs.Expectations.has_known_expectation}
use Rattle.{gateway_messages.specs.Requests.has_host, decide_negotiation.specs.Codings.encoding_quality}
use Rattle.decide_negotiation.specs.{MediaRanges.media_type_says, Qualities.{quality_by, quality_in, rank}}
use Rattle.{decide_preconditions.specs.{Conditions.date_in, Tags.is_star}, headers_syntax.specs.AsciiCase.same_name}
use Rattle.decide_resource.specs.{Representations.{are_unacceptable, first_preferred, score}, Requests.Request}
use Rattle.decide_resource.specs.declared.{reason.Reason.Reason, representation.Representation.Representation}
use Rattle.decide_resource.specs.declared.reason.Reason.TheVariants.{InvalidHost, Misdirected, Preflight, Denied}
use Rattle.decide_resource.specs.declared.reason.Reason.TheVariants.{UnknownMethod, MethodNotAllowed, UnmetExpectation}
use Rattle.decide_resource.specs.declared.reason.Reason.TheVariants.{PartialContent, Moved, Gone, NotFound, Options}
use Rattle.decide_resource.specs.declared.reason.Reason.TheVariants.{LengthRequired, ContentTooLarge}
use Rattle.decide_resource.specs.declared.reason.Reason.TheVariants.{UnsupportedMediaType, UnsupportedCoding}
use Rattle.decide_resource.specs.declared.reason.Reason.TheVariants.{NotAcceptable, PreconditionRequired, Admitted}
use Rattle.decide_resource.specs.declared.{request.RequestContent.RequestContent, resource.MethodRule.MethodRule}
use Rattle.decide_resource.specs.declared.resource.{Resource.Resource, State.State}
use Rattle.decide_resource.specs.declared.request.RequestContent.TheVariants as sent
use Rattle.decide_resource.specs.declared.resource.State.TheVariants as state

-- ---- the host (section 7.4)

-- the host that a request names: the authority of its target, or else its Host
abbrev pub host_named : Option Line → List Line → Option Line
host_named (Some authority) hosts = Some authority
host_named None hosts = only_line hosts

-- nothing, or a colon (58) and digits (RFC 3986, section 3.2.3)
abbrev pub is_port : List ℕ → Bool
is_port [] = true
is_port (byte ∷ rest) = (byte == 58) && list_all is_ascii_digit rest

-- the host is this one, in any case; one that is written without a port is served at each
abbrev pub is_at_host : List ℕ → Line → Bool
is_at_host own host =
    nat_le (length own) (length host)
    && (same_name own (take (length own) host) && is_port (drop (length own) host))

-- the resource is served for the host; a request of HTTP/1.0 may name none
abbrev pub is_own : List FieldValue → Option Line → Bool
is_own hosts None = true
is_own hosts (Some host) = list_any (λ own. is_at_host own.bytes host) hosts

abbrev pub is_misdirected : Resource → Request → Bool
is_misdirected resource request =
    option_map_or (λ hosts. not (is_own hosts.items (host_named request.authority (request.fields (codes "host")))))
    resource.hosts false

-- ---- the method (section 9)

-- GET or HEAD
abbrev pub is_read : List ℕ → Bool
is_read method = bytes_eq method (codes "GET") || bytes_eq method (codes "HEAD")

-- The server implements the method for some resource, if these are the methods that it names. Each implements GET and
-- HEAD (section 9.1).
abbrev pub is_implemented : List (List ℕ) → List ℕ → Bool
is_implemented named method = is_read method || list_any (bytes_eq method) named

-- the method whose rule counts: HEAD is answered as GET (section 9.3.2)
abbrev pub ruled : List ℕ → List ℕ
ruled method = if bytes_eq method (codes "HEAD") then codes "GET" else method

-- the rule for a method, if the resource has one
unfoldable pub rule_for : List MethodRule → List ℕ → Option MethodRule
rule_for rules method = find (λ rule. bytes_eq rule.method (ruled method)) rules

-- there is a method where this is the rule for it; each resource has OPTIONS (section 9.3.7)
abbrev pub has_method_by : Option MethodRule → List ℕ → Bool
has_method_by rule method = bytes_eq method (codes "OPTIONS") || is_some rule

-- the resource has the method
abbrev pub has_method : List MethodRule → List ℕ → Bool
has_method rules method = has_method_by (rule_for rules method) method

-- the methods that a rule adds to Allow
abbrev pub methods_of : MethodRule → List (List ℕ)
methods_of rule =
    if bytes_eq rule.method (codes "GET") then codes "GET" ∷ codes "HEAD" ∷ []
    else (
    if bytes_eq rule.method (codes "HEAD") || bytes_eq rule.method (codes "OPTIONS") then [] else rule.method ∷ []
    )

-- the methods of a resource, in the order of its rules (section 10.2.1)
abbrev pub methods : List MethodRule → List (List ℕ)
methods rules = flat_map methods_of rules ++ codes "OPTIONS" ∷ []

-- ---- the state (sections 15.4 and 15.5)

abbrev pub has_moved : State → Bool
has_moved (state.Moved redirect location) = true
has_moved other = false

abbrev pub is_gone : State → Bool
is_gone state.Gone = true
is_gone other = false

abbrev pub is_current : State → Bool
is_current state.Current = true
is_current other = false

abbrev pub creates : Option MethodRule → Bool
creates rule = option_map_or (λ r. r.creates) rule false

-- There is no representation, and the method, where this is the rule for it, makes none. OPTIONS asks about all
-- methods, so it does if one does. The server in general represents nothing, and answers OPTIONS (section 9.3.7).
abbrev pub is_missing : State → List MethodRule → Option MethodRule → List ℕ → Bool
is_missing state.Absent rules rule method =
    not (if bytes_eq method (codes "OPTIONS") then list_any (λ r. r.creates) rules else creates rule)
is_missing state.Server rules rule method = not (bytes_eq method (codes "OPTIONS"))
is_missing other rules rule method = false

-- ---- the content of the request

abbrev pub is_unsized : RequestContent → Bool
is_unsized sent.Unsized = true
is_unsized other = false

-- the content has this length, which is above the limit
abbrev pub exceeds : Option ℕ → RequestContent → Bool
exceeds None content = false
exceeds (Some limit) sent.Absent = false
exceeds (Some limit) (sent.Sized len) = nat_lt limit len
exceeds (Some limit) sent.Unsized = false

abbrev pub has_content : RequestContent → Bool
has_content sent.Absent = false
has_content (sent.Sized len) = nat_lt 0 len
has_content sent.Unsized = true

-- Content-Type; content without it may be taken for any bytes (section 8.3), and several lines are no media type
abbrev pub type_named : List Line → Line
type_named [] = codes "application/octet-stream"
type_named (line ∷ []) = line
type_named (line ∷ other ∷ lines) = []

-- The media type is acceptable by Accept as the response to the request would have it (section 12.5.1).
unfoldable pub takes_type : MethodRule → LineMap → Bool
takes_type rule fields =
    nat_lt 0
    (rank
    (quality_in (quality_by media_type_says) (lines_at rule.takes (codes "accept"))
    (type_named (fields (codes "content-type")))))

abbrev pub is_present : List Line → Bool
is_present lines = nat_lt 0 (length lines)

-- The codings of a line are acceptable by these lines of Accept-Encoding. Without a line `identity` alone is, as a
-- server that names no coding decodes none (section 8.4).
unfoldable pub takes_codings : List Line → Line → Bool
takes_codings accepted line =
    if is_present accepted then nat_lt 0 (rank (quality_in encoding_quality accepted line))
    else same_name line (codes "identity")

-- Each line of Content-Encoding is acceptable by Accept-Encoding as the response would have it (section 12.5.3).
abbrev pub takes_coding : MethodRule → LineMap → Bool
takes_coding rule fields =
    list_all (takes_codings (lines_at rule.takes (codes "accept-encoding"))) (fields (codes "content-encoding"))

abbrev pub takes_parts : Option MethodRule → Bool
takes_parts rule = option_map_or (λ r. r.takes_parts) rule false

-- The method is PUT, and Content-Range says that the content is a part, where no parts are taken (section 14.5). With
-- any other method the field is ignored (section 14.4).
abbrev pub is_unsupported_part : Option MethodRule → List ℕ → List Line → Bool
is_unsupported_part rule method ranges =
    bytes_eq method (codes "PUT") && (is_present ranges && not (takes_parts rule))

-- ---- requests from other origins

-- a preflight: OPTIONS with Origin, and with the method that it asks about (Fetch standard, "CORS-preflight request")
abbrev pub is_preflight_request : List ℕ → LineMap → Bool
is_preflight_request method fields =
    bytes_eq method (codes "OPTIONS")
    && (is_present (fields (codes "origin")) && is_present (fields (codes "access-control-request-method")))

-- ---- conditions (RFC 6585, section 3)

-- the representation that a request selects, if there is a current one (RFC 9110, section 12.1)
abbrev pub selected_of : Resource → LineMap → Option Representation
selected_of resource fields =
    if is_current resource.state
    then first_preferred (score resource.negotiation fields) resource.representations.items else None

-- when it was last modified, if that is known
abbrev pub date_selected : Resource → LineMap → Option ℕ
date_selected resource fields = option_and_then (λ r. r.validators.last_modified) (selected_of resource fields)

-- If-Unmodified-Since is a date, and no later than that of the representation: a later one is true of states that its
-- client has never seen.
abbrev pub is_dated : ℕ → List Line → Option ℕ → Bool
is_dated present lines modified =
    option_map_or (λ both. nat_le both.0 (unix_epoch + both.1)) (option_zip (date_in present lines) modified) false

-- The request names the representation that it may replace: by entity tags in If-Match, or without that field, which
-- takes the place of the other (RFC 9110, section 13.1.4), by a strong date in If-Unmodified-Since.
abbrev pub names_current : ℕ → Resource → LineMap → Bool
names_current present resource fields =
    if is_present (fields (codes "if-match")) then not (is_star (fields (codes "if-match")))
    else resource.has_strong_dates
    && is_dated present (fields (codes "if-unmodified-since")) (date_selected resource fields)

-- The request names what it may replace: a representation, or by `*` in If-None-Match, nothing. No other precondition
-- does: `*` in If-Match is true of each representation, tags in If-None-Match of each but theirs, and a weak date of
-- two states within a second (RFC 9110, sections 13.1 and 8.8.2.2).
abbrev pub is_guarded : ℕ → Resource → LineMap → Bool
is_guarded present resource fields =
    names_current present resource fields || is_star (fields (codes "if-none-match"))

abbrev pub needs_condition : Option MethodRule → Bool
needs_condition rule = option_map_or (λ r. r.needs_condition) rule false

-- ---- reading

-- a read of a current representation of which none is acceptable, by a resource that says so
unfoldable pub is_unacceptable : Resource → Request → Bool
is_unacceptable resource request =
    is_read request.method && (is_current resource.state && (resource.negotiation.is_strict
    && (nat_lt 0 (length resource.representations.items)
    && are_unacceptable resource.negotiation request.fields resource.representations.items)))

-- ---- when each reason applies

-- the rule for the method of a request
abbrev pub rule : Resource → Request → Option MethodRule
rule resource request = rule_for resource.rules.items request.method

module _ (present : ℕ) (resource : Resource) (request : Request) where
  -- whether a reason applies, where this is the rule for the method
  abbrev pub applies_by : Option MethodRule → Reason → Bool
  applies_by rule InvalidHost = not (has_host request.protocol (request.fields (codes "host")))
  applies_by rule Misdirected = is_misdirected resource request
  applies_by rule Preflight = is_some resource.cors && is_preflight_request request.method request.fields
  applies_by rule Denied = is_some request.denied
  applies_by rule UnknownMethod =
      not (is_implemented resource.implemented.items request.method || has_method_by rule request.method)
  applies_by rule MethodNotAllowed = not (has_method_by rule request.method)
  applies_by rule UnmetExpectation = not (has_known_expectation (request.fields (codes "expect")))
  applies_by rule PartialContent = is_unsupported_part rule request.method (request.fields (codes "content-range"))
  applies_by rule Moved = has_moved resource.state
  applies_by rule Gone = is_gone resource.state
  applies_by rule NotFound = is_missing resource.state resource.rules.items rule request.method
  applies_by rule Options = bytes_eq request.method (codes "OPTIONS")
  applies_by rule LengthRequired = resource.needs_length && is_unsized request.content
  applies_by rule ContentTooLarge = exceeds resource.limit request.content
  applies_by rule UnsupportedMediaType =
      has_content request.content && option_map_or (λ r. not (takes_type r request.fields)) rule false
  applies_by rule UnsupportedCoding =
      has_content request.content && option_map_or (λ r. not (takes_coding r request.fields)) rule false
  applies_by rule NotAcceptable = is_unacceptable resource request
  applies_by rule PreconditionRequired =
      not (is_read request.method) && (needs_condition rule && not (is_guarded present resource request.fields))
  applies_by rule Admitted = true

  abbrev pub applies : Reason → Bool
  applies = applies_by (rule resource request)
