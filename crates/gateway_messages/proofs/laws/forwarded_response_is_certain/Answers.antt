use Rattle.gateway_messages.proofs.ResponseLemmas.{one_response}
use Rattle.gateway_messages.proofs.laws.forwarded_response_is_certain.Goals as goal

pub returns : goal.returns
returns c = one_response
