-- What the answer of a resource sends.
use Rattle.std.proofs.Common.{◌≡◌, ℕ, Bool, true, false, List, [], ◌++◌, Option, Some, None, ap, sym, subst, arith, ◌∙◌}
use Rattle.std.{proofs.{Common.Bor, lemmas.{List.Elements.All-head, Option.slice_get-map}}, specs.Bool.MatchBool}
use Rattle.std.specs.{Option.{is_some, option_map}, Prelude.{⊤, map, option_copied, slice_get, string_bytes}}
use Rattle.{http_header.specs.FieldValue.FieldValue, http1.specs.Fields.Header, headers.specs.LineMap.{Field, LineMap}}
use Rattle.{memchr.specs.Find.FindsNeedle, decide_preconditions.specs.Contents.{divisible_len, limits_of}}
use Rattle.decide_preconditions.specs.{Parts.IsPartOf, Plans.IsPlan, Responses.IsAnswered}
use Rattle.decide_preconditions.specs.declared.{limits.RangeLimits.RangeLimits, plan.Plan.Plan}
use Rattle.decide_preconditions.specs.declared.plan.Plan.TheVariants.{NotModified, Failed, Full, Single, Multiple}
use Rattle.decide_preconditions.specs.declared.plan.Plan.TheVariants.{Unsatisfiable}
use Rattle.decide_preconditions.specs.declared.resource.TargetState.{TargetState as Target}
use Rattle.{decide_preconditions.specs.declared.response.Response.Response, decide_resource.specs.Answers.GivesIf}
use Rattle.decide_resource.specs.Answers.{IsAnswer, at_place, content_of, is_admitted, is_sent, sent_for, target_of}
use Rattle.decide_resource.specs.Requests.{Request as Asked}
use Rattle.decide_resource.specs.declared.answer.{Answer.Answer, Sends.{Sends, TheVariants.{Nothing, Alternatives}}}
use Rattle.decide_resource.specs.declared.{answer.Sends.TheVariants.{Planned, Perform}, reason.Reason.Reason}
use Rattle.decide_resource.specs.declared.reason.Reason.TheVariants.{InvalidHost, Misdirected, Preflight, Denied}
use Rattle.decide_resource.specs.declared.reason.Reason.TheVariants.{UnknownMethod, MethodNotAllowed, UnmetExpectation}
use Rattle.decide_resource.specs.declared.reason.Reason.TheVariants.{PartialContent, Moved, Gone, NotFound, Options}
use Rattle.decide_resource.specs.declared.reason.Reason.TheVariants.{LengthRequired, ContentTooLarge}
use Rattle.decide_resource.specs.declared.reason.Reason.TheVariants.{UnsupportedMediaType, UnsupportedCoding}
use Rattle.decide_resource.specs.declared.reason.Reason.TheVariants.{NotAcceptable, PreconditionRequired, Admitted}
use Rattle.decide_resource.specs.declared.{representation.Representation.Representation, resource.Resource.Resource}
use Rattle.decide_cors.specs.Policy.{Policy}
use Rattle.server_connection.specs.declared.plan.ResponsePlan.{ResponsePlan as Exchanged}
use Rattle.server_service.specs.Answer.{Carries, FitsIn, FitsOf, cache_sent, explained_fields, pieces_for}
use Rattle.server_service.specs.{File.{len_of, representation_of}, Parts.{Fits, Occurs}, Response.headers_sent}
use Rattle.server_service.specs.{Response.trimmed_lines, declared.{settings.Site.Site, file.File.File}}

-- the parts of a plan lie in the representation
pub Fits-from_plan : (present : ℕ) (method : List ℕ) (request : LineMap) (target : Target) (len : ℕ)
    (limits : RangeLimits) (plan : Plan) → IsPlan present method request target len limits plan → Fits len plan
Fits-from_plan present method request target len limits Full h = tt
Fits-from_plan present method request target len limits (Single part) h =
    All-head (IsPartOf len) part [] h.2.asks.asked.coalesced.within
Fits-from_plan present method request target len limits (Multiple parts) h = h.2.asks.asked.coalesced.within
Fits-from_plan present method request target len limits NotModified h = tt
Fits-from_plan present method request target len limits Failed h = tt
Fits-from_plan present method request target len limits Unsatisfiable h = tt

-- the plan is that of the preconditions and Range for this representation
abbrev pub IsPlanOf : ℕ → Resource → Asked → Option Representation → Plan → Type 0
IsPlanOf present resource asked representation plan =
    IsPlan present asked.method asked.fields (target_of resource.state representation)
    (divisible_len (content_of representation)) (limits_of (content_of representation)) plan

-- if a plan decides what is sent, it is one for the representation at its place
abbrev pub IsPlannedIn : ℕ → Resource → Asked → Sends → Type 0
IsPlannedIn present resource asked Nothing = ⊤
IsPlannedIn present resource asked Alternatives = ⊤
IsPlannedIn present resource asked (Planned place plan) =
    IsPlanOf present resource asked (at_place resource.representations.items place) plan
IsPlannedIn present resource asked Perform = ⊤

module _ (present : ℕ) (resource : Resource) (asked : Asked) where
  stopped : (reason : Reason) → IsPlannedIn present resource asked (sent_for reason)
  stopped InvalidHost = tt
  stopped Misdirected = tt
  stopped Preflight = tt
  stopped Denied = tt
  stopped UnknownMethod = tt
  stopped MethodNotAllowed = tt
  stopped Options = tt
  stopped UnmetExpectation = tt
  stopped PartialContent = tt
  stopped Moved = tt
  stopped Gone = tt
  stopped NotFound = tt
  stopped LengthRequired = tt
  stopped ContentTooLarge = tt
  stopped UnsupportedMediaType = tt
  stopped UnsupportedCoding = tt
  stopped NotAcceptable = tt
  stopped PreconditionRequired = tt
  stopped Admitted = tt

  going : (place : Option ℕ) (response : Option Response) → IsAnswered present asked.method asked.fields
      (target_of resource.state (at_place resource.representations.items place))
      (content_of (at_place resource.representations.items place)) resource.boundary response
      → IsPlannedIn present resource asked (is_sent place response)
  going place None h = tt
  going place (Some response) h = h.plan

  given : (admitted : Bool) (reason : Reason) (status : Option ℕ) (sent : Sends) (fields : List Field)
      → GivesIf admitted present resource asked reason status sent fields → IsPlannedIn present resource asked sent
  given true reason status sent fields h =
      subst (IsPlannedIn present resource asked) (sym h.goes.sends) (going h.place h.goes.response h.goes.answered)
  given false reason status sent fields h = subst (IsPlannedIn present resource asked) (sym h.sends) (stopped reason)

  -- the plan of the preconditions and Range decides what an answer sends of a representation
  pub planned_in : (answer : Answer) → IsAnswer present resource asked answer
      → IsPlannedIn present resource asked answer.sends
  planned_in answer h = given (is_admitted answer.reason) answer.reason answer.status answer.sends h.own h.gives

  module _ (files : List File) (e : resource.representations.items ≡ map (representation_of present) files) where
    fits_at : (file : Option File) (plan : Plan)
        → IsPlanOf present resource asked (option_map (representation_of present) file) plan → FitsOf file plan
    fits_at None plan h = tt
    fits_at (Some file) plan h = Fits-from_plan present asked.method asked.fields
        (target_of resource.state (Some (representation_of present file))) (len_of file.source)
        (limits_of (content_of (Some (representation_of present file)))) plan h

    fits_in : (sent : Sends) → IsPlannedIn present resource asked sent → FitsIn files sent
    fits_in Nothing h = tt
    fits_in Alternatives h = tt
    fits_in (Planned None plan) h = tt
    fits_in (Planned (Some place) plan) h = fits_at (slice_get files place) plan
        (subst (λ (r : Option Representation). IsPlanOf present resource asked r plan)
        (slice_get-map (representation_of present) files place)
        (subst (λ (l : List Representation). IsPlanOf present resource asked (slice_get l place) plan) e h))
    fits_in Perform h = tt

    -- the parts that an answer sends lie in the file
    pub FitsIn-from_answer : (answer : Answer) → IsAnswer present resource asked answer → FitsIn files answer.sends
    FitsIn-from_answer answer h = fits_in answer.sends (planned_in answer h)

pub Occurs-from_find : (content bytes : List ℕ) (found : Option ℕ) → FindsNeedle content bytes 0 found
    → MatchBool (is_some found) (Occurs bytes content) (¬ (Occurs bytes content))
Occurs-from_find content bytes (Some k) h = (k, h.1)
Occurs-from_find content bytes None h = λ o. h o.0 (omega arith) (omega (arith, o.1.fits)) o.1

-- what a response carries depends on the policy of the site alone, and not on the last request
pub Carries-at : (before : List Header) (site other : Site) (files : List File) (code : ℕ) (sent : Sends)
    (given : List Field) (response : Exchanged) → other.cache_control ≡ site.cache_control
    → other.divider ≡ site.divider → other.pages ≡ site.pages → other.resource.cors ≡ site.resource.cors
    → Carries before other files code sent given response → Carries before site files code sent given response
Carries-at before site other files code sent given response cache divider pages cors h = record {
  status = h.status;
  headers = h.headers
      ∙ ap (λ (x : Option FieldValue).
      trimmed_lines (((before ++ cache_sent sent x) ++ headers_sent (is_some other.resource.cors) given)
      ++ explained_fields code sent)) cache
      ∙ ap (λ (x : Option Policy).
      trimmed_lines (((before ++ cache_sent sent site.cache_control) ++ headers_sent (is_some x) given)
      ++ explained_fields code sent)) cors;
  pieces = h.pieces
      ∙ ap (λ (x : _). pieces_for (string_bytes x) other.pages.items files code sent) divider
      ∙ ap (λ (x : _). pieces_for (string_bytes site.divider) x.items files code sent) pages;
  valid = h.valid;
  tagged = h.tagged;
  short = h.short;
}

pub bytes_copied : (lent : Option (Bor FieldValue)) (value : Option FieldValue) → option_copied lent ≡ value
    → option_map (λ (it : Bor FieldValue). it.now.bytes) lent ≡ option_map (λ (it : FieldValue). it.bytes) value
bytes_copied None value e = ap (λ (v : Option FieldValue). option_map (λ (it : FieldValue). it.bytes) v) e
bytes_copied (Some it) value e = ap (λ (v : Option FieldValue). option_map (λ (x : FieldValue). x.bytes) v) e
