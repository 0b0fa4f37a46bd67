use Rattle.gateway_messages.proofs.ResponseLemmas.{one_response_outcome, some_response_outcome}
use Rattle.gateway_messages.proofs.laws.response_has_one_outcome.Goals as goal

pub returns-clause-some : goal.returns-clause-some
returns-clause-some c = some_response_outcome

pub returns-clause-one : goal.returns-clause-one
returns-clause-one c = one_response_outcome
