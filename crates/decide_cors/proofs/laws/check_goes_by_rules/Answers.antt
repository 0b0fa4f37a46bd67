use Rattle.decide_cors.proofs.CheckLemmas.{check_is_policy}
use Rattle.decide_cors.proofs.laws.check_goes_by_rules.Goals as goal

pub returns : goal.returns
returns c = check_is_policy
