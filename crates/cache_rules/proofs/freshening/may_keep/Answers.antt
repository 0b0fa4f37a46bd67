use Rattle.{std.{proofs.Common.subst, specs.Bool.MatchBool}, cache_policy.specs.Policies.{MayStoreUnder, policy_of}}
use Rattle.{cache_policy.specs.Requests.Request, cache_rules.specs.Stored.fields_of_stored}
use Rattle.cache_rules.proofs.freshening.may_keep.Goals as goal

pub returns : goal.returns
returns c =
    let fresh = c.args.fresh.now in
    subst (λ (request : Request). MatchBool c.may_store.result
    (MayStoreUnder (policy_of c.args.policy.now) request fresh.status (fields_of_stored fresh))
    (¬ (MayStoreUnder (policy_of c.args.policy.now) request fresh.status (fields_of_stored fresh)))) c.head.ensures
    c.may_store.ensures
