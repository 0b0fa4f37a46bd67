use Rattle.gateway_messages.proofs.OutcomeLemmas.{one_outcome, some_outcome}
use Rattle.gateway_messages.proofs.laws.request_has_one_outcome.Goals as goal

pub returns-clause-some : goal.returns-clause-some
returns-clause-some c = some_outcome

pub returns-clause-one : goal.returns-clause-one
returns-clause-one c = one_outcome
