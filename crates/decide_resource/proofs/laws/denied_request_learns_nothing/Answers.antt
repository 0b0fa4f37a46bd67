use Rattle.decide_resource.proofs.DeniedLemmas.{tells_nothing, told_why}
use Rattle.decide_resource.proofs.laws.denied_request_learns_nothing.Goals as goal

pub returns-clause-status : goal.returns-clause-status
returns-clause-status c present resource request answer why denies = told_why request why denies present resource answer

pub returns-clause-same : goal.returns-clause-same
returns-clause-same c present later a b request x y why denies hosts cors =
    tells_nothing request why denies present later a b hosts cors x y
