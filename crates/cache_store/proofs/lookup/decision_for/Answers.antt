use Rattle.{cache_policy.specs.Policies.policy_of, headers.specs.LineMap.lines_at}
use Rattle.cache_store.proofs.LookupLemmas.{decision-by}
use Rattle.cache_store.proofs.lookup.decision_for.Goals as goal

pub returns : goal.returns
returns c = decision-by (policy_of c.args.policy.now) c.args.most
    (lines_at c.args.request.now) c.args.age c.args.stored.now c.decide_by_directives.result c.read_governing-by.result
    c.read_governing-by.ensures c.lifetime_of.result c.lifetime_of.ensures c.decide_by_directives.ensures
