-- What depends on a plan is the same for two plans of one request.
use Rattle.std.proofs.Common.{◌≡◌, ℕ, ◌<◌, List, [], ◌∷◌, Some, length, refl, sym, ap, arith}
use Rattle.{headers.specs.LineMap.LineMap, decide_preconditions.specs.Plans.{IsPlan, IsSamePlan}}
use Rattle.decide_preconditions.specs.declared.{limits.RangeLimits.RangeLimits, part.Part.Part, plan.Plan.Plan}
use Rattle.decide_preconditions.specs.declared.plan.Plan.TheVariants.{NotModified, Failed, Full, Single, Multiple}
use Rattle.decide_preconditions.specs.declared.{plan.Plan.TheVariants.Unsatisfiable, resource.TargetState.TargetState}

one_is_not_more : (x : Part) (xs : List Part) → x ∷ [] ≡ xs → ¬ (1 < length xs)
one_is_not_more x xs e more = let len = ap length e in omega (arith, len, more)

-- what depends on a plan, but of several parts not on which they are
pub same_by_plan : {X : Type 0} (present : ℕ) (method : List ℕ) (request : LineMap) (resource : TargetState) (len : ℕ)
    (limits : RangeLimits) (of_plan : Plan → X) → ((xs ys : _) → of_plan (Multiple xs) ≡ of_plan (Multiple ys))
    → (p q : Plan) → IsPlan present method request resource len limits p
    → IsPlan present method request resource len limits q → IsSamePlan (Some p) (Some q) → of_plan p ≡ of_plan q
same_by_plan present method request resource len limits of_plan alike Full Full h k same = refl
same_by_plan present method request resource len limits of_plan alike NotModified NotModified h k same = refl
same_by_plan present method request resource len limits of_plan alike Failed Failed h k same = refl
same_by_plan present method request resource len limits of_plan alike Unsatisfiable Unsatisfiable h k same = refl
same_by_plan present method request resource len limits of_plan alike (Single x) (Single y) h k same =
    let e : x ≡ y = cc (same.1) in ap (λ (part : Part). of_plan (Single part)) e
same_by_plan present method request resource len limits of_plan alike (Multiple xs) (Multiple ys) h k same = alike xs ys
same_by_plan present method request resource len limits of_plan alike (Single x) (Multiple ys) h k same =
    absurd (one_is_not_more x ys.items same.1 k.3)
same_by_plan present method request resource len limits of_plan alike (Multiple xs) (Single y) h k same =
    absurd (one_is_not_more y xs.items (sym same.1) h.3)
same_by_plan present method request resource len limits of_plan alike p q h k same = absurd (omega (arith, same.0))
