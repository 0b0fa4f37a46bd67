use Rattle.decide_cors.proofs.CheckLemmas.{exposed_is_policy}
use Rattle.decide_cors.proofs.laws.exposed_goes_by_rules.Goals as goal

pub returns : goal.returns
returns c = exposed_is_policy
