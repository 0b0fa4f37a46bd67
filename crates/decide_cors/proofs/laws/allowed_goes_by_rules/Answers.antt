use Rattle.decide_cors.proofs.CheckLemmas.{allowed_is_policy}
use Rattle.decide_cors.proofs.laws.allowed_goes_by_rules.Goals as goal

pub returns : goal.returns
returns c = allowed_is_policy
