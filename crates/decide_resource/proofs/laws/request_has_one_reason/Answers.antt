use Rattle.decide_resource.proofs.OneReasonLemmas.{one_reason, some_reason}
use Rattle.decide_resource.proofs.laws.request_has_one_reason.Goals as goal

pub returns-clause-some : goal.returns-clause-some
returns-clause-some c = some_reason

pub returns-clause-one : goal.returns-clause-one
returns-clause-one c = one_reason
