use Rattle.decide_cors.proofs.CheckLemmas.{preflight_is_policy}
use Rattle.decide_cors.proofs.laws.preflight_goes_by_rules.Goals as goal

pub returns : goal.returns
returns c = preflight_is_policy
