-- What a request is answered (RFC 9110).
use Rattle.std.specs.Prelude.{◌≡◌, ℕ, Bool, true, false, List, [], ◌∷◌, ◌++◌, slice_get, Option, Some, None, codes}
use Rattle.std.specs.Prelude.{option_map, bytes_eq, if◌then◌else◌, ⊤, ◌<◌, ◌^◌, All, length}
use Rattle.headers.specs.LineMap.{Field, LineMap, lines_at}
use Rattle.{headers.specs.{LineMap.fields_of, Lines.Line}, decide_cors.specs.Answer.IsAnswer as IsPolicyAnswer}
use Rattle.decide_cors.specs.{Policy.Policy, declared.policy.CorsAnswer.CorsAnswer}
use Rattle.decide_negotiation.specs.Choice.{Picks}
use Rattle.decide_preconditions.specs.{Contents.limits_of, Fields.is_known_by, Plans.IsSamePlan}
use Rattle.decide_preconditions.specs.{Responses.IsAnswered, declared.{content.Content.Content, plan.Plan.Plan}}
use Rattle.decide_preconditions.specs.declared.{resource.TargetState.TargetState as Target, response.Response.Response}
use Rattle.decide_resource.specs.{Applies.applies, Fields.{describes, metadata_fields, reason_fields, status_of}}
use Rattle.decide_resource.specs.{Fields.{vary_fields, vary_lines}, Reasons.IsFirst, Representations.score}
use Rattle.decide_resource.specs.{Requests.Request, declared.answer.{Answer.Answer, Sends.Sends}}
use Rattle.decide_resource.specs.declared.{reason.Reason.Reason, representation.Representation.Representation}
use Rattle.decide_resource.specs.declared.resource.{MethodRule.MethodRule, Resource.Resource, State.State}
use Rattle.decide_preconditions.specs.declared.resource.TargetState.TheVariants as target
use Rattle.decide_resource.specs.declared.answer.Sends.TheVariants as sends
use Rattle.decide_resource.specs.declared.resource.State.TheVariants as state

-- ---- the representation that a request selects (section 12.1)

-- the first representation, where the choice is none
abbrev pub place_of : List Representation → Option ℕ → Option ℕ
place_of representations (Some place) = Some place
place_of [] None = None
place_of (representation ∷ representations) None = Some 0

-- what is there of a resource in this state: a representation that was chosen, if there is a current one
abbrev pub place_in : State → List Representation → Option ℕ → Option ℕ
place_in state.Current representations choice = place_of representations choice
place_in other representations choice = None

-- The place of the representation that a request selects. It is the one that the client prefers, or else the first.
pub record IsSelected (resource : Resource) (fields : LineMap) (place : Option ℕ) : Type 0 where
  pub choice : Option ℕ
  pub picks : Picks (score resource.negotiation fields) resource.representations.items choice
  pub is : place ≡ place_in resource.state resource.representations.items choice

-- ---- what the preconditions see (section 13.2)

-- no validator is known
abbrev pub without_validators : Target
without_validators =
    target.Current (record { etag = None; last_modified = None; is_date_strong = false })

-- what there is without a representation to show
abbrev pub bare : State → Target
bare state.Current = without_validators
bare other = target.Missing

abbrev pub no_content : Content
no_content = record { len = None; media_type = None; ranges = None }

-- the representation at the place, if there is one
abbrev pub at_place : List Representation → Option ℕ → Option Representation
at_place representations None = None
at_place representations (Some place) = slice_get representations place

abbrev pub target_of : State → Option Representation → Target
target_of state None = bare state
target_of state (Some representation) = target.Current representation.validators

abbrev pub content_of : Option Representation → Content
content_of None = no_content
content_of (Some representation) = representation.content

-- ---- a request that may go on

-- the fields of the answer that the preconditions and Range give, if the method isn't performed
abbrev pub with_metadata : LineMap → Option Representation → Plan → List Field → List Field
with_metadata fields None plan sent = sent
with_metadata fields (Some representation) plan sent =
    metadata_fields (describes plan (is_known_by fields)) representation ++ sent

abbrev pub response_fields : LineMap → Option Representation → Option Response → List Field
response_fields fields representation None = []
response_fields fields representation (Some response) =
    with_metadata fields representation response.plan (fields_of response.fields.items)

abbrev pub status_sent : Option Response → Option ℕ
status_sent response = option_map (λ r. r.status) response

-- what the response of the preconditions sends, or that the method is performed without one
abbrev pub is_sent : Option ℕ → Option Response → Sends
is_sent place None = sends.Perform
is_sent place (Some response) = sends.Planned place response.plan

-- the answer by the preconditions and Range on the representation at a place
pub record GoesOn (present : ℕ) (resource : Resource) (request : Request) (place : Option ℕ)
    (representation : Option Representation) (status : Option ℕ) (sent : Sends) (fields : List Field) : Type 0 where
  pub response : Option Response
  pub answered : IsAnswered present request.method request.fields (target_of resource.state representation)
      (content_of representation) resource.boundary response
  pub has_status : status ≡ status_sent response
  pub sends : sent ≡ is_sent place response
  pub has_fields : fields ≡ response_fields request.fields representation response

-- the answer by the preconditions and Range on the selected representation
pub record Goes (present : ℕ) (resource : Resource) (request : Request) (status : Option ℕ) (sent : Sends)
    (fields : List Field) : Type 0 where
  pub place : Option ℕ
  pub selected : IsSelected resource request.fields place
  pub goes : GoesOn present resource request place (at_place resource.representations.items place) status sent fields

-- ---- a request that may not

-- 406 comes with a list of the representations that there are (section 15.5.7)
abbrev pub sent_for : Reason → Sends
sent_for Reason.NotAcceptable = sends.Alternatives
sent_for reason = sends.Nothing

pub record Stops (resource : Resource) (request : Request) (reason : Reason) (status : Option ℕ) (sent : Sends)
    (fields : List Field) : Type 0 where
  pub has_status : status ≡ Some (status_of resource.state request.denied reason)
  pub sends : sent ≡ sent_for reason
  pub has_fields : fields ≡ reason_fields resource request reason

-- nothing prevents the method
abbrev pub is_admitted : Reason → Bool
is_admitted Reason.Admitted = true
is_admitted reason = false

abbrev pub GivesIf : Bool → ℕ → Resource → Request → Reason → Option ℕ → Sends → List Field → Type 0
GivesIf true present resource request reason status sent fields = Goes present resource request status sent fields
GivesIf false present resource request reason status sent fields = Stops resource request reason status sent fields

-- what a reason gives
abbrev pub Gives : ℕ → Resource → Request → Reason → Option ℕ → Sends → List Field → Type 0
Gives present resource request reason status sent fields =
    GivesIf (is_admitted reason) present resource request reason status sent fields

-- ---- the answer

-- a response with these field lines of Vary alone
abbrev pub varying : List Line → LineMap
varying lines name = if bytes_eq (codes "vary") name then lines else []

-- what the policy for requests from other origins says of a response with these field lines of Vary, if there is one
abbrev pub IsShared : Option Policy → Request → List Line → List Field → Type 0
IsShared None request lines fields = fields ≡ []
IsShared (Some policy) request lines fields =
    (answer : CorsAnswer) × IsPolicyAnswer policy request.method request.fields (varying lines) answer
    × (fields ≡ fields_of answer.fields.items)

-- The answer has the first reason that applies, and what it gives; then Vary, and what the policy says.
pub record IsAnswer (present : ℕ) (resource : Resource) (request : Request) (answer : Answer) : Type 0 where
  pub first : IsFirst (applies present resource request) answer.reason
  pub own : List Field
  pub gives : Gives present resource request answer.reason answer.status answer.sends own
  pub shared : List Field
  pub is_shared : IsShared resource.cors request (vary_lines resource answer.reason) shared
  pub fields : fields_of answer.fields.items ≡ (own ++ vary_fields (vary_lines resource answer.reason)) ++ shared

-- ---- a resource whose answers fit memory

-- a rule takes fewer lines of each field than a `Vec` may have
abbrev pub TakesFew : MethodRule → Type 0
TakesFew rule = (name : List ℕ) → length (lines_at rule.takes name) < 2 ^ 63

-- a response has fewer parts of the representation than a `Vec` may have
abbrev pub HasFewParts : Representation → Type 0
HasFewParts representation = (limits_of representation.content).parts < 2 ^ 63

-- Each list of an answer fits a `Vec`. All that a machine can hold does.
pub record FitsMemory (resource : Resource) : Type 0 where
  pub takes : All TakesFew resource.rules.items
  pub parts : All HasFewParts resource.representations.items

-- ---- two answers that say the same

-- both send the same: of two plans their statuses and their parts decide
abbrev pub AreSent : Sends → Sends → Type 0
AreSent sends.Nothing sends.Nothing = ⊤
AreSent sends.Alternatives sends.Alternatives = ⊤
AreSent (sends.Planned place p) (sends.Planned other q) = (place ≡ other) × IsSamePlan (Some p) (Some q)
AreSent sends.Perform sends.Perform = ⊤
AreSent sent other = ⊥

pub record AreSame (a b : Answer) : Type 0 where
  pub reason : a.reason ≡ b.reason
  pub status : a.status ≡ b.status
  pub sends : AreSent a.sends b.sends
  pub fields : fields_of a.fields.items ≡ fields_of b.fields.items
