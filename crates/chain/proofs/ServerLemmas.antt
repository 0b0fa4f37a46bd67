-- A resource sets no connection option, and what a server sends for the same is the same.
use Rattle.std.proofs.Common.{◌≡◌, ℕ, Bool, true, false, List, [], ◌∷◌, ◌++◌, Option, Some, None, refl, ◌∙◌, ap}
use Rattle.std.{proofs.lemmas.Bool.{and_from, and_parts}, specs.Prelude.{bytes_eq, codes, if◌then◌else◌, is_some, not}}
use Rattle.{std.specs.List.list_all, http_header.specs.FieldValue.FieldValue, headers.specs.LineMap.{Field, LineMap}}
use Rattle.{headers.specs.{LineMap.{fields_of, set, set_all}, Lines.Line}, chain.specs.Caches.{Reply, second_of}}
use Rattle.chain.specs.Servers.{IsSent, SaysCloseAtMost, Server, connection_lines, sent_of}
use Rattle.decide_cors.specs.{Fields.{covers_origin, grant_fields, granted, vary_sent}, Kinds.is_preflight}
use Rattle.{decide_cors.specs.Policy.Policy, decide_preconditions.specs.Fields.{fields_removed, fields_sent}}
use Rattle.decide_preconditions.specs.{Fields.{is_known_by, is_whole, keeps_encoding}, Responses.IsAnswered}
use Rattle.decide_preconditions.specs.declared.{content.Content.Content, plan.Plan.Plan}
use Rattle.decide_preconditions.specs.{declared.resource.TargetState.TargetState as Target}
use Rattle.{decide_preconditions.specs.declared.response.Response.Response, decide_resource.specs.Answers.AreSent}
use Rattle.decide_resource.specs.Answers.{GivesIf, IsAnswer, IsShared, at_place, content_of, is_admitted}
use Rattle.decide_resource.specs.{Answers.{response_fields, target_of}, Fields.{accept_encoding_fields, denied_fields}}
use Rattle.decide_resource.specs.Fields.{describes, location_fields, metadata_fields, reason_fields, types_fields}
use Rattle.decide_resource.specs.{Fields.{vary_fields, vary_lines}, Requests.Request, declared.answer.Answer.Answer}
use Rattle.decide_resource.specs.declared.{answer.Sends.Sends, reason.Reason.{Reason, TheVariants.{Denied, Options}}}
use Rattle.decide_resource.specs.declared.{representation.Representation.Representation, resource.MethodRule.MethodRule}
use Rattle.decide_resource.specs.declared.resource.{Resource.Resource, State.State}
use Rattle.decide_resource.specs.declared.denied.Denied.{Denied as Denial}
use Rattle.decide_resource.specs.declared.denied.Denied.TheVariants as denied
use Rattle.decide_resource.specs.declared.reason.Reason.TheVariants.{Moved, UnsupportedMediaType, UnsupportedCoding}
use Rattle.decide_resource.specs.declared.answer.Sends.TheVariants as sends
use Rattle.decide_resource.specs.declared.resource.State.TheVariants as state

-- ---- what is the same

pub same_sent : (a b : Sends) → AreSent a b → sent_of a ≡ sent_of b
same_sent sends.Nothing sends.Nothing h = refl
same_sent sends.Alternatives sends.Alternatives h = refl
same_sent (sends.Planned place p) (sends.Planned other q) h = cc (h.0, h.1.1)
same_sent sends.Perform sends.Perform h = refl
same_sent a b h = absurd h

-- ---- fields that aren't Connection

abbrev is_other : Field → Bool
is_other field = not (bytes_eq field.0 (codes "connection"))

abbrev are_other : List Field → Bool
are_other fields = list_all is_other fields

both : (fs gs : List Field) → are_other fs ≡ true → are_other gs ≡ true → are_other (fs ++ gs) ≡ true
both [] gs h k = k
both (f ∷ fs) gs h k =
    let x = and_parts (is_other f) (are_other fs) h in and_from _ _ x.0 (both fs gs x.1 k)

not_other : (b : Bool) → not b ≡ true → b ≡ false
not_other false e = refl
not_other true e = absurd (cc e)

keep : (m : LineMap) (fields : List Field) → are_other fields ≡ true
    → set_all m fields (codes "connection") ≡ m (codes "connection")
keep m [] h = refl
keep m (f ∷ fields) h =
    let x = and_parts (is_other f) (are_other fields) h in
    keep (set m f) fields x.1 ∙ ap (λ (b : Bool). if b then f.1 else m (codes "connection")) (not_other _ x.0)

-- ---- the fields of an answer

located : (s : State) → are_other (location_fields s) ≡ true
located (state.Moved redirect location) = refl
located other = refl

accepting : (b : Bool) (r : Option MethodRule)
    → are_other (types_fields (codes "accept") r ++ (if b then types_fields (codes "accept-patch") r else [])) ≡ true
accepting true None = refl
accepting true (Some r) = refl
accepting false None = refl
accepting false (Some r) = refl

accepting_coding : (r : Option MethodRule) → are_other (accept_encoding_fields r) ≡ true
accepting_coding None = refl
accepting_coding (Some r) = refl

offering : (p q : Option MethodRule)
    → are_other (types_fields (codes "accept-patch") p ++ types_fields (codes "accept-post") q) ≡ true
offering None None = refl
offering None (Some q) = refl
offering (Some p) None = refl
offering (Some p) (Some q) = refl

denying : (why : Option Denial) → are_other (denied_fields why) ≡ true
denying (Some (denied.TooManyRequests (Some seconds))) = refl
denying (Some (denied.Unavailable (Some seconds))) = refl
denying other = refl

explained : (resource : Resource) (request : Request) (reason : Reason)
    → are_other (reason_fields resource request reason) ≡ true
explained resource request Options = offering _ _
explained resource request Moved = located _
explained resource request UnsupportedMediaType = accepting _ _
explained resource request UnsupportedCoding = accepting_coding _
explained resource request Denied = denying request.denied
explained resource request other = refl

described : (b : Bool) (representation : Representation) → are_other (metadata_fields b representation) ≡ true
described true representation = refl
described false representation = refl

removed : (plan : Plan) (known : Bool) → are_other (fields_removed plan known) ≡ true
removed plan known = by (keeps_encoding plan known) (is_whole plan)
  where
    by : (b c : Bool) → are_other ((if b then [] else (codes "content-encoding", []) ∷ [])
        ++ (if c then [] else (codes "content-digest", []) ∷ (codes "content-md5", []) ∷ [])) ≡ true
    by true true = refl
    by true false = refl
    by false true = refl
    by false false = refl

planned : (present : ℕ) (plan : Plan) (known : Bool) (target : Target) (content : Content) (multipart : FieldValue)
    → are_other (fields_sent present plan known target content multipart) ≡ true
planned present plan known target content multipart = removed plan known

answered : (present : ℕ) (request : Request) (representation : Option Representation) (target : Target)
    (content : Content) (multipart : FieldValue) (response : Option Response)
    → IsAnswered present request.method request.fields target content multipart response
    → are_other (response_fields request.fields representation response) ≡ true
answered present request representation target content multipart None h = refl
answered present request None target content multipart (Some response) h =
    ap are_other h.fields ∙ planned present response.plan (is_known_by request.fields) target content multipart
answered present request (Some representation) target content multipart (Some response) h = both
    (metadata_fields (describes response.plan (is_known_by request.fields)) representation)
    (fields_of response.fields.items) (described (describes response.plan (is_known_by request.fields)) representation)
    (ap are_other h.fields ∙ planned present response.plan (is_known_by request.fields) target content multipart)

given : (b : Bool) (present : ℕ) (resource : Resource) (request : Request) (reason : Reason) (status : Option ℕ)
    (sent : Sends) (own : List Field) → GivesIf b present resource request reason status sent own → are_other own ≡ true
given true present resource request reason status sent own h =
    let representation = at_place resource.representations.items h.place in
    ap are_other h.goes.has_fields
    ∙ answered present request representation (target_of resource.state representation) (content_of representation)
    resource.boundary h.goes.response h.goes.answered
given false present resource request reason status sent own h =
    ap are_other h.has_fields ∙ explained resource request reason

varied : (lines : List Line) → are_other (vary_fields lines) ≡ true
varied [] = refl
varied (line ∷ lines) = refl

granting : (policy : Policy) (pre : Bool) (line : Option Line) (lines : List Line)
    → are_other (grant_fields policy pre line ++ vary_sent policy lines) ≡ true
granting policy pre line lines = by (is_some policy.origins) (covers_origin lines)
  where
    by : (b c : Bool)
        → are_other (if b then (if c then [] else (codes "vary", lines ++ codes "origin" ∷ []) ∷ []) else []) ≡ true
    by true true = refl
    by true false = refl
    by false c = refl

sharing : (cors : Option Policy) (request : Request) (lines : List Line) (fields : List Field)
    → IsShared cors request lines fields → are_other fields ≡ true
sharing None request lines fields none = ap are_other none
sharing (Some policy) request lines fields h = ap are_other (h.2 ∙ h.1.fields)
    ∙ granting policy (is_preflight h.0.kind) (granted policy (request.fields (codes "origin"))) lines

-- the fields of an answer leave Connection as it is
pub sets_no_option : (present : ℕ) (resource : Resource) (request : Request) (answer : Answer)
    → IsAnswer present resource request answer → (before : LineMap)
    → set_all before (fields_of answer.fields.items) (codes "connection") ≡ before (codes "connection")
sets_no_option present resource request answer a before =
    let vary = vary_fields (vary_lines resource answer.reason) in
    keep before (fields_of answer.fields.items) (
    ap are_other a.fields ∙ both (a.own ++ vary) a.shared (
    both a.own vary
    (given (is_admitted answer.reason) present resource request answer.reason answer.status answer.sends a.own a.gives)
    (varied (vary_lines resource answer.reason))
    ) (sharing resource.cors request (vary_lines resource answer.reason) a.shared a.is_shared)
    )

-- so a server says at most that it closes the connection
pub says_close_at_most : (server : Server) (now : ℕ) (request : Request) (reply : Reply)
    → IsSent server now request reply → SaysCloseAtMost reply.fields
says_close_at_most server now request reply h = (
  h.closes,
  h.connection
      ∙ sets_no_option (second_of now) (server.resource now) request h.said.answer h.said.is
      (set (server.own now reply.status) (codes "connection", connection_lines h.closes)),
)
