use Rattle.decide_resource.proofs.OwnFieldLemmas.{implemented_not_allowed, unknown_not_implemented}
use Rattle.decide_resource.proofs.laws.statuses_agree_with_the_server.Goals as goal

pub returns-clause-not_allowed : goal.returns-clause-not_allowed
returns-clause-not_allowed c = implemented_not_allowed

pub returns-clause-unknown : goal.returns-clause-unknown
returns-clause-unknown c = unknown_not_implemented
