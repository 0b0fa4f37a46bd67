-- What the conditions of a client come to on a stored response (RFC 9111, section 4.3.2).
use Rattle.std.specs.Prelude.{◌≡◌, ◌≢◌, ◌⊎◌, ℕ, ◌-◌, Bool, true, false, ◌&&◌, length, nat_le, nat_lt, Option, Some}
use Rattle.std.specs.Prelude.{None, option_and_then, option_map, codes, if◌then◌else◌}
use Rattle.{headers.specs.{Lines.Line, Shapes.only_tag, Typed.HasLine}, rfc_values.specs.Calendar.unix_epoch}
use Rattle.{cache_policy.specs.{Fields.date_in, Requests.Request}, decide_preconditions.specs.Plans.IsPlan}
use Rattle.decide_preconditions.specs.declared.{limits.RangeLimits.RangeLimits, plan.Plan.Plan}
use Rattle.decide_preconditions.specs.declared.resource.{TargetState.TheVariants.Current, Validators.Validators}
use Rattle.{decide_preconditions.specs.Preconditions.IsGetOrHead, cache_rules.specs.Stored.{fields_of_stored, made_at}}
use Rattle.cache_rules.specs.declared.{conditions.StoredAnswer.StoredAnswer, stored.StoredResponse.StoredResponse}
use Rattle.decide_preconditions.specs.declared.plan.Plan.TheVariants as plan
use Rattle.cache_rules.specs.declared.conditions.StoredAnswer.TheVariants as stored_answer

-- A cache evaluates the request: it reads, and has no condition that applies to an origin server alone.
pub record IsForCache (request : Request) : Type 0 where
  pub reads : IsGetOrHead request.method
  pub no_match : ¬ (HasLine (request.fields (codes "if-match")))
  pub no_unmodified : ¬ (HasLine (request.fields (codes "if-unmodified-since")))

-- the seconds since 1970 of a second of the years 1970 to 9999
abbrev pub unix_second : ℕ → Option ℕ
unix_second second =
    if nat_le unix_epoch second && nat_lt (second - unix_epoch) 253_402_300_800 then Some (second - unix_epoch)
    else None

-- The date by which If-Modified-Since is evaluated: Last-Modified, or if it isn't there the time at which the response
-- was made.
abbrev pub modified_second : StoredResponse → Option ℕ
modified_second stored =
    if nat_lt 0 (length (fields_of_stored stored (codes "last-modified")))
    then option_and_then unix_second (date_in stored.received (codes "last-modified") (fields_of_stored stored))
    else unix_second (made_at stored)

-- the validators of a stored response; its date is no strong one
pub record AreValidators (stored : StoredResponse) (current : Validators) : Type 0 where
  pub etag : option_map (λ tag. tag.bytes) current.etag
      ≡ (only_tag {V = Line} (λ tag. tag)).value_of (fields_of_stored stored (codes "etag"))
  pub modified : current.last_modified ≡ modified_second stored
  pub weak : current.is_date_strong ≡ false

-- One part is sent at most: a request for several gets all (RFC 9110, section 14.2, lets a server ignore Range).
abbrev pub one_part : RangeLimits
one_part = record { gap = 80; head = 512; parts = 1 }

-- of how many bytes ranges are sent, if they are
abbrev pub divisible : Bool → StoredResponse → ℕ
divisible true stored = length stored.content
divisible false stored = 0

module _ (now : ℕ) (request : Request) (stored : StoredResponse) (ranges : Bool) where
  -- the stored response has this plan for the request, by its validators and its content (RFC 9110, section 13.2.2)
  abbrev pub HasPlan : Plan → Type 0
  HasPlan p =
      (current : Validators) × AreValidators stored current
      × IsPlan now request.method request.fields (Current current) (divisible ranges stored) one_part p

  -- a stored 200 is answered by its plan
  abbrev pub IsEvaluated : Plan → Type 0
  IsEvaluated p = IsForCache request × (stored.status ≡ 200) × HasPlan p

  -- Which facts give each answer. A stored response with another status is the answer as it is: preconditions are about
  -- responses of success (RFC 9110, section 13.2.1).
  abbrev pub IsStoredAnswer : StoredAnswer → Type 0
  IsStoredAnswer stored_answer.Forward = ¬ (IsForCache request)
  IsStoredAnswer stored_answer.Whole = (IsForCache request × (stored.status ≢ 200)) ⊎ IsEvaluated plan.Full
  IsStoredAnswer (stored_answer.Part part) = IsEvaluated (plan.Single part)
  IsStoredAnswer stored_answer.NotModified = IsEvaluated plan.NotModified
  IsStoredAnswer stored_answer.Unsatisfiable = IsEvaluated plan.Unsatisfiable

-- how a plan is told; a request that a cache evaluates has no other
abbrev pub answer_of : Option Plan → StoredAnswer
answer_of (Some plan.Full) = stored_answer.Whole
answer_of (Some (plan.Single part)) = stored_answer.Part part
answer_of (Some (plan.Multiple parts)) = stored_answer.Forward
answer_of (Some plan.NotModified) = stored_answer.NotModified
answer_of (Some plan.Failed) = stored_answer.Forward
answer_of (Some plan.Unsatisfiable) = stored_answer.Unsatisfiable
answer_of None = stored_answer.Forward
