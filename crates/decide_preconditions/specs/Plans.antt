-- The response to a request for a representation (RFC 9110, sections 13.2.2, 14.2 and 15).
use Rattle.std.specs.Prelude.{◌≡◌, ◌≢◌, ◌⊎◌, ⊤, ℕ, ◌<◌, false, List, [], ◌∷◌, length, Option, Some, None}
use Rattle.{headers.specs.LineMap.LineMap, decide_preconditions.specs.{Fields.status_of, Limits.are_too_many}}
use Rattle.decide_preconditions.specs.{Preconditions.{Answers, IsGetOrHead}, Selection.{AsksFor, AsksForSome}}
use Rattle.decide_preconditions.specs.{Selection.{HasSelection, Selects}, declared.limits.RangeLimits.RangeLimits}
use Rattle.decide_preconditions.specs.declared.{part.Part.Part, plan.Plan.{Plan, TheVariants.{NotModified, Failed}}}
use Rattle.decide_preconditions.specs.declared.plan.Plan.TheVariants.{Full, Single, Multiple, Unsatisfiable}
use Rattle.decide_preconditions.specs.declared.resource.TargetState.{TargetState, TheVariants.{Missing, Current}}
use Rattle.decide_preconditions.specs.declared.{resource.Validators.Validators, selection.Selection.Selection}
use Rattle.decide_preconditions.specs.declared.precondition.Precondition.TheVariants as precondition
use Rattle.decide_preconditions.specs.declared.selection.Selection.TheVariants as selection

module _ (present : ℕ) (method : List ℕ) (request : LineMap) (resource : TargetState) where
  -- the preconditions let the method pass, and it reads this current representation
  pub record Reads (current : Validators) : Type 0 where
    pub performs : Answers present request resource method precondition.Perform
    pub is_read : IsGetOrHead method
    pub is_current : resource ≡ Current current

  module _ (len : ℕ) (limits : RangeLimits) where
    -- Range asks for these parts, and they aren't too many
    pub record SendsParts (current : Validators) (parts : List Part) : Type 0 where
      pub set : List ℕ
      pub asks : AsksFor present method request current len limits set parts
      pub few : are_too_many limits len parts ≡ false

    -- Which facts give each response: 412, 304, and of a read that passes 200, 206 with one part, 206 with more than
    -- one, and 416.
    abbrev pub IsPlan : Plan → Type 0
    IsPlan Failed = Answers present request resource method precondition.Failed
    IsPlan NotModified = Answers present request resource method precondition.NotModified
    IsPlan Full =
        (current : Validators) × Reads current × Selects present method request current len limits selection.Whole
    IsPlan (Single part) = (current : Validators) × Reads current × SendsParts current (part ∷ [])
    IsPlan (Multiple parts) =
        (current : Validators) × Reads current × SendsParts current parts.items × (1 < length parts.items)
    IsPlan Unsatisfiable =
        (current : Validators) × Reads current
        × Selects present method request current len limits selection.Unsatisfiable

    -- There is no plan exactly for requests that the server performs and answers by itself, and whose preconditions are
    -- true: a method that is no read, or a read of what is missing.
    abbrev pub IsPlanned : Option Plan → Type 0
    IsPlanned None =
        Answers present request resource method precondition.Perform
        × ((resource ≡ Missing) ⊎ ¬ (IsGetOrHead method))
    IsPlanned (Some plan) = IsPlan plan

    -- the request has a plan, or none; a read that passes has one by its selection
    abbrev pub HasPlan : Type 0
    HasPlan = IsPlan Failed ⊎ (IsPlan NotModified ⊎ (IsPlanned None
        ⊎ ((current : Validators) × Reads current × HasSelection present method request current len limits)))

    -- the request reads a current representation, and Range asks for a position of it
    abbrev pub ReadsSome : Type 0
    ReadsSome =
        (current : Validators) × Reads current × AsksForSome present method request current len limits

-- how a selection is sent: all, one part, several parts, or nothing
abbrev pub IsSentAs : Selection → Plan → Type 0
IsSentAs selection.Whole plan = plan ≡ Full
IsSentAs selection.Unsatisfiable plan = plan ≡ Unsatisfiable
IsSentAs (selection.Parts parts) (Single part) = parts.items ≡ part ∷ []
IsSentAs (selection.Parts parts) (Multiple sent) = (sent.items ≡ parts.items) × (length parts.items ≢ 1)
IsSentAs (selection.Parts parts) plan = ⊥

-- the parts that are sent, if not all is
abbrev pub parts_sent : Plan → List Part
parts_sent (Single part) = part ∷ []
parts_sent (Multiple parts) = parts.items
parts_sent plan = []

-- both are no plan, or have the same status and the same parts
abbrev pub IsSamePlan : Option Plan → Option Plan → Type 0
IsSamePlan None None = ⊤
IsSamePlan (Some p) (Some q) = (status_of p ≡ status_of q) × (parts_sent p ≡ parts_sent q)
IsSamePlan p q = ⊥
