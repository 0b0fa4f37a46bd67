use Rattle.decide_resource.proofs.GuardLemmas.{conditions_last}
use Rattle.decide_resource.proofs.laws.preconditions_come_last.Goals as goal

pub returns : goal.returns
returns c = conditions_last
