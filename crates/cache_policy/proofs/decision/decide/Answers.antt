use Rattle.cache_policy.proofs.PolicyLemmas.{plain_decides}
use Rattle.cache_policy.proofs.decision.decide.Goals as goal

pub returns : goal.returns
returns c = plain_decides _ _ _ _ _ _ c.decide.ensures
