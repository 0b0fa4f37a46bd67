-- The response to a request for a representation.
use Rattle.std.specs.Prelude.{◌≡◌, ◌⊎◌, ℕ, List, Option, Some, None}
use Rattle.http_header.specs.FieldValue.{FieldValue}
use Rattle.{headers.specs.LineMap.{LineMap, fields_of}, decide_preconditions.specs.Contents.{divisible_len, limits_of}}
use Rattle.decide_preconditions.specs.{Fields.{fields_sent, is_known_by, status_of}, Plans.{IsPlan, IsPlanned}}
use Rattle.decide_preconditions.specs.{Plans.ReadsSome, declared.{content.Content.Content, plan.Plan.Plan}}
use Rattle.decide_preconditions.specs.declared.{response.Response.Response, resource.TargetState.TargetState}

-- the response has the plan of the request, and the status and the fields of the plan
pub record IsResponse (present : ℕ) (method : List ℕ) (request : LineMap) (resource : TargetState) (content : Content)
    (multipart : FieldValue) (response : Response) : Type 0 where
  pub plan : IsPlanned present method request resource (divisible_len content) (limits_of content) (Some response.plan)
  pub status : response.status ≡ status_of response.plan
  pub fields : fields_of response.fields.items
      ≡ fields_sent present response.plan (is_known_by request) resource content multipart

abbrev pub IsAnswered : ℕ → List ℕ → LineMap → TargetState → Content → FieldValue → Option Response → Type 0
IsAnswered present method request resource content multipart None =
    IsPlanned present method request resource (divisible_len content) (limits_of content) None
IsAnswered present method request resource content multipart (Some response) =
    IsResponse present method request resource content multipart response

-- the request has a plan, or reads a current representation of which Range asks for a position
abbrev pub IsPlannedAtAll : ℕ → List ℕ → LineMap → TargetState → Content → Type 0
IsPlannedAtAll present method request resource content =
    ((plan : Plan) × IsPlan present method request resource (divisible_len content) (limits_of content) plan)
    ⊎ ReadsSome present method request resource (divisible_len content) (limits_of content)
