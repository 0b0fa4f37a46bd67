-- What depends on a plan is the same for two plans of one request.
use Rattle.std.proofs.Common.{◌≡◌, ℕ, ◌<◌, List, [], ◌∷◌, Some, length, refl, sym, ap, ◌∙◌, arith}
use Rattle.{std.specs.Prelude.{if◌then◌else◌, ◌==◌}, headers.specs.LineMap.LineMap}
use Rattle.decide_preconditions.specs.{Fields.status_of, Plans.{IsPlan, IsSamePlan, parts_sent}}
use Rattle.decide_preconditions.specs.declared.{limits.RangeLimits.RangeLimits, part.Part.Part, plan.Plan.Plan}
use Rattle.decide_preconditions.specs.declared.plan.Plan.TheVariants.{NotModified, Failed, Full, Single, Multiple}
use Rattle.decide_preconditions.specs.declared.{plan.Plan.TheVariants.Unsatisfiable, resource.TargetState.TargetState}

-- what depends on a plan, from its parts if it sends some of them: `several` depends on two or more
abbrev by_parts : {X : Type 0} → (Plan → X) → (List Part → X) → List Part → X
by_parts of_plan several [] = of_plan Full
by_parts of_plan several (part ∷ []) = of_plan (Single part)
by_parts of_plan several (part ∷ other ∷ parts) = several (part ∷ other ∷ parts)

-- the same from its status and its parts
abbrev by_status : {X : Type 0} → (Plan → X) → (List Part → X) → ℕ → List Part → X
by_status of_plan several status parts = if status == 200 then of_plan Full else
    (if status == 304 then of_plan NotModified else (if status == 412 then of_plan Failed
    else (if status == 416 then of_plan Unsatisfiable else by_parts of_plan several parts)))

by_parts-several : {X : Type 0} (of_plan : Plan → X) (several : List Part → X) (parts : List Part) → 1 < length parts
    → several parts ≡ by_parts of_plan several parts
by_parts-several of_plan several [] more = absurd (omega (arith, more))
by_parts-several of_plan several (part ∷ []) more = absurd (omega (arith, more))
by_parts-several of_plan several (part ∷ other ∷ parts) more = refl

module _ (present : ℕ) (method : List ℕ) (request : LineMap) (resource : TargetState) (len : ℕ)
    (limits : RangeLimits) where
  goes_by_status : {X : Type 0} (of_plan : Plan → X) (several : List Part → X)
      → ((parts : _) → of_plan (Multiple parts) ≡ several parts.items) → (plan : Plan)
      → IsPlan present method request resource len limits plan
      → of_plan plan ≡ by_status of_plan several (status_of plan) (parts_sent plan)
  goes_by_status of_plan several same_parts Full h = refl
  goes_by_status of_plan several same_parts (Single part) h = refl
  goes_by_status of_plan several same_parts (Multiple parts) h =
      same_parts parts ∙ by_parts-several of_plan several parts.items h.3
  goes_by_status of_plan several same_parts NotModified h = refl
  goes_by_status of_plan several same_parts Failed h = refl
  goes_by_status of_plan several same_parts Unsatisfiable h = refl

  -- what depends on a plan, and for several parts on their list alone, is the same for two such plans
  pub same_by_plan : {X : Type 0} (of_plan : Plan → X) (several : List Part → X)
      → ((parts : _) → of_plan (Multiple parts) ≡ several parts.items) → (p q : Plan)
      → IsPlan present method request resource len limits p → IsPlan present method request resource len limits q
      → IsSamePlan (Some p) (Some q) → of_plan p ≡ of_plan q
  same_by_plan of_plan several same_parts p q h k same = goes_by_status of_plan several same_parts p h
      ∙ ap (λ (status : ℕ). by_status of_plan several status (parts_sent p)) same.0
      ∙ ap (λ (parts : List Part). by_status of_plan several (status_of q) parts) same.1
      ∙ sym (goes_by_status of_plan several same_parts q k)
