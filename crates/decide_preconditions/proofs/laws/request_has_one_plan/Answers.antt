use Rattle.decide_preconditions.proofs.OnePlanLemmas.{one_plan, some_plan}
use Rattle.decide_preconditions.proofs.laws.request_has_one_plan.Goals as goal

pub returns-clause-some : goal.returns-clause-some
returns-clause-some c =
    λ present method request resource len limits. some_plan present method request len limits resource

pub returns-clause-one : goal.returns-clause-one
returns-clause-one c = one_plan
