-- What is chosen by equal tests and scores is the same.
use Rattle.std.proofs.Common.{◌≡◌, ℕ, Bool, List, get_or, Option, Some, None, sym, ◌∙◌, arith}
use Rattle.{decide_negotiation.specs.Choice.Picks, decide_resource.specs.Reasons.IsFirst}
use Rattle.decide_resource.specs.declared.reason.Reason.{Reason}

pub first_alike : (p q : Reason → Bool) → ((r : Reason) → p r ≡ q r) → (reason : Reason) → IsFirst p reason
    → IsFirst q reason
first_alike p q same reason h = grind (arith, reason)

pub picks_alike : {A : Type 0} (f g : A → ℕ) → ((x : A) → f x ≡ g x) → (xs : List A) (choice : Option ℕ)
    → Picks f xs choice → Picks g xs choice
picks_alike f g same xs None h = λ k other low. sym (same (get_or xs k other)) ∙ h k other low
picks_alike f g same xs (Some place) h = grind (arith)
