-- What a pass comes to, by what it is of.
use Rattle.std.proofs.Common.{◌≡◌, ℕ, List, Option, subst}
use Rattle.{cache_policy.specs.Policies.Policy, cache_policy.specs.Requests.Request}
use Rattle.cache_policy.specs.declared.decision.Freshness.{Freshness}
use Rattle.cache_rules.specs.declared.stored.StoredResponse.{StoredResponse}
use Rattle.cache_pass.specs.declared.{cache.Cache.Cache, pass.Pass.Pass, replying.First.First}
use Rattle.c_pass.specs.{Status.{IsSelection, IsStanding}, declared.status.{Course.Course, Standing.Standing}}

pub selection_of : (p q : Policy) (guess : ℕ) (r s : Request) (now : ℕ) (xs ys : List StoredResponse)
    (selected : Option Freshness) → p ≡ q → r ≡ s → xs ≡ ys → IsSelection p guess r now xs selected
    → IsSelection q guess s now ys selected
selection_of p q guess r s now xs ys selected policy request stored is =
    subst (λ (it : Policy). IsSelection it guess s now ys selected) policy
    (subst (λ (it : Request). IsSelection p guess it now ys selected) request
    (subst (λ (it : List StoredResponse). IsSelection p guess r now it selected) stored is))

pub standing_of : (guess now : ℕ) (a b : Cache) (p q : Pass) (first : First) (earlier : Option Course)
    (old new : Standing) → a ≡ b → p ≡ q → old ≡ new → IsStanding guess now a p first earlier old
    → IsStanding guess now b q first earlier new
standing_of guess now a b p q first earlier old new cache pass standing is =
    subst (λ (it : Cache). IsStanding guess now it q first earlier new) cache
    (subst (λ (it : Pass). IsStanding guess now a it first earlier new) pass
    (subst (λ (it : Standing). IsStanding guess now a p first earlier it) standing is))
