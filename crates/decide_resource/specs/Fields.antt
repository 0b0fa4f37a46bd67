-- The fields of an answer, and its status (RFC 9110).
use Rattle.std.specs.Prelude.{ℕ, Bool, true, false, List, [], ◌∷◌, ◌++◌, Option, Some, None, bytes_eq, codes, decimal}
use Rattle.std.specs.{Prelude.{if◌then◌else◌, not}, Option.option_map_or}
use Rattle.http_header.specs.FieldValue.{FieldValue}
use Rattle.headers.specs.{LineMap.{Field, lines_at}, Lines.Line, Merge.merge, Places.comma}
use Rattle.{decide_preconditions.specs.declared.plan.Plan.Plan, decide_resource.specs.Applies.{methods, rule, rule_for}}
use Rattle.decide_resource.specs.{Requests.Request, declared.{denied.Denied.Denied as Denial, reason.Reason.Reason}}
use Rattle.decide_resource.specs.declared.representation.{Negotiation.Negotiation, Representation.Representation}
use Rattle.decide_resource.specs.declared.resource.{MethodRule.MethodRule, Redirect.Redirect, Resource.Resource}
use Rattle.decide_resource.specs.declared.resource.State.{State}
use Rattle.decide_resource.specs.declared.denied.Denied.TheVariants as denied
use Rattle.decide_resource.specs.declared.resource.State.TheVariants as state

-- ---- the status

abbrev pub redirect_status : Redirect → ℕ
redirect_status Redirect.MovedPermanently = 301
redirect_status Redirect.Temporary = 307
redirect_status Redirect.Permanent = 308

-- the status of a resource under another URI
abbrev pub moved_status : State → ℕ
moved_status (state.Moved redirect location) = redirect_status redirect
moved_status other = 200

-- the status of a request that is denied (sections 15.5.2, 15.5.4 and 15.6.4; RFC 6585, section 4)
abbrev pub status_denied : Denial → ℕ
status_denied (denied.Unauthenticated challenge) = 401
status_denied denied.Forbidden = 403
status_denied (denied.TooManyRequests seconds) = 429
status_denied (denied.Unavailable seconds) = 503

abbrev pub denied_status : Option Denial → ℕ
denied_status None = 200
denied_status (Some why) = status_denied why

-- The status of a reason, where the state says which redirect, and the request why it is denied; that of a request that
-- goes on isn't among them.
abbrev pub status_of : State → Option Denial → Reason → ℕ
status_of state why Reason.InvalidHost = 400
status_of state why Reason.Misdirected = 421
status_of state why Reason.Preflight = 204
status_of state why Reason.Denied = denied_status why
status_of state why Reason.UnknownMethod = 501
status_of state why Reason.MethodNotAllowed = 405
status_of state why Reason.UnmetExpectation = 417
status_of state why Reason.PartialContent = 400
status_of state why Reason.Moved = moved_status state
status_of state why Reason.Gone = 410
status_of state why Reason.NotFound = 404
status_of state why Reason.Options = 204
status_of state why Reason.LengthRequired = 411
status_of state why Reason.ContentTooLarge = 413
status_of state why Reason.UnsupportedMediaType = 415
status_of state why Reason.UnsupportedCoding = 415
status_of state why Reason.NotAcceptable = 406
status_of state why Reason.PreconditionRequired = 428
status_of state why Reason.Admitted = 200

-- ---- the fields that explain a reason

-- after how many seconds a client may send another request (section 10.2.3)
abbrev pub retry_field : ℕ → Field
retry_field seconds = (codes "retry-after", decimal seconds ∷ [])

abbrev pub retry_fields : Option ℕ → List Field
retry_fields None = []
retry_fields (Some seconds) = retry_field seconds ∷ []

-- a 401 has challenges (section 11.6.1), and a 429 or a 503 says when to come again, if that is known
abbrev pub denied_fields : Option Denial → List Field
denied_fields None = []
denied_fields (Some (denied.Unauthenticated challenge)) = (codes "www-authenticate", challenge.bytes ∷ []) ∷ []
denied_fields (Some denied.Forbidden) = []
denied_fields (Some (denied.TooManyRequests seconds)) = retry_fields seconds
denied_fields (Some (denied.Unavailable seconds)) = retry_fields seconds

-- Allow lists the methods (section 10.2.1)
abbrev pub allow_field : List MethodRule → Field
allow_field rules = (codes "allow", merge comma (methods rules) ∷ [])

-- Location of a resource that moved (section 10.2.2)
abbrev pub location_fields : State → List Field
location_fields (state.Moved redirect location) = (codes "location", location.bytes ∷ []) ∷ []
location_fields other = []

-- the field of this name lists the media types that a method takes
abbrev pub types_fields : List ℕ → Option MethodRule → List Field
types_fields name rule = option_map_or (λ r. (name, lines_at r.takes (codes "accept")) ∷ []) rule []

-- Where the media type of a request isn't taken, Accept says which are (section 12.5.1). For PATCH so does Accept-Patch
-- (RFC 5789, section 2.2).
abbrev pub accept_fields : List ℕ → Option MethodRule → List Field
accept_fields method rule =
    types_fields (codes "accept") rule
    ++ (if bytes_eq method (codes "PATCH") then types_fields (codes "accept-patch") rule else [])

-- What OPTIONS says of content: Accept-Patch which media types PATCH takes (RFC 5789, section 3.1), and Accept-Post
-- which POST takes (Linked Data Platform 1.0, section 7.1).
abbrev pub offered_fields : List MethodRule → List Field
offered_fields rules =
    types_fields (codes "accept-patch") (rule_for rules (codes "PATCH"))
    ++ types_fields (codes "accept-post") (rule_for rules (codes "POST"))

-- the codings that these lines of Accept-Encoding list, which without a line are `identity` alone
abbrev pub codings_told : List Line → List Line
codings_told [] = codes "identity" ∷ []
codings_told (line ∷ lines) = line ∷ lines

-- Accept-Encoding says which codings it takes (section 12.5.3)
abbrev pub accept_encoding_fields : Option MethodRule → List Field
accept_encoding_fields rule =
    option_map_or
    (λ r. (codes "accept-encoding", codings_told (lines_at r.takes (codes "accept-encoding"))) ∷ []) rule []

module _ (resource : Resource) (request : Request) where
  -- A 415 for a media type has no Accept-Encoding, from which a client would learn that a coding is to blame (12.5.3).
  abbrev pub reason_fields : Reason → List Field
  reason_fields Reason.Denied = denied_fields request.denied
  reason_fields Reason.MethodNotAllowed = allow_field resource.rules.items ∷ []
  reason_fields Reason.Options = allow_field resource.rules.items ∷ offered_fields resource.rules.items
  reason_fields Reason.Moved = location_fields resource.state
  reason_fields Reason.UnsupportedMediaType = accept_fields request.method (rule resource request)
  reason_fields Reason.UnsupportedCoding = accept_encoding_fields (rule resource request)
  reason_fields other = []

-- ---- the coding and the language of a representation (sections 8.4 and 8.5)

abbrev pub lines_of_value : Option FieldValue → List Line
lines_of_value None = []
lines_of_value (Some value) = value.bytes ∷ []

-- the answer has the representation's header fields: a 200, and a 206 unless the client knows them (section 15.3.7)
abbrev pub describes : Plan → Bool → Bool
describes Plan.Full is_known = true
describes (Plan.Single part) is_known = not is_known
describes (Plan.Multiple parts) is_known = not is_known
describes other is_known = false

-- Both, where the answer has the representation's header fields. The fields that the preconditions give follow, and
-- remove Content-Encoding where it isn't the coding of the content.
abbrev pub metadata_fields : Bool → Representation → List Field
metadata_fields true representation =
    (codes "content-encoding", lines_of_value representation.coding)
    ∷ (codes "content-language", lines_of_value representation.language) ∷ []
metadata_fields false representation = (codes "content-language", []) ∷ []

-- ---- Vary (section 12.5.5)

abbrev pub line_if : Bool → Line → List Line
line_if true line = line ∷ []
line_if false line = []

-- the fields by which a representation is chosen
abbrev pub selecting : Negotiation → List Line
selecting negotiation =
    line_if negotiation.media_type (codes "accept") ++ line_if negotiation.language (codes "accept-language")
    ++ line_if negotiation.coding (codes "accept-encoding")

-- the reason was found after the representations were looked at
abbrev pub depends_on_selection : Reason → Bool
depends_on_selection Reason.NotAcceptable = true
depends_on_selection Reason.PreconditionRequired = true
depends_on_selection Reason.Admitted = true
depends_on_selection other = false

abbrev pub vary_lines : Resource → Reason → List Line
vary_lines resource reason = if depends_on_selection reason then selecting resource.negotiation else []

-- Vary, unless nothing is named
abbrev pub vary_fields : List Line → List Field
vary_fields [] = []
vary_fields (line ∷ lines) = (codes "vary", line ∷ lines) ∷ []
