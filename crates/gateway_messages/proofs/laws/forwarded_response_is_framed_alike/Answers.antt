use Rattle.gateway_messages.proofs.ResponseLemmas.{response_alike}
use Rattle.gateway_messages.proofs.laws.forwarded_response_is_framed_alike.Goals as goal

pub returns : goal.returns
returns c = response_alike
