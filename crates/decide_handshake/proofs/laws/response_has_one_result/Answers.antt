use Rattle.decide_handshake.proofs.ClientLemmas.{one_result, some_result}
use Rattle.decide_handshake.proofs.laws.response_has_one_result.Goals as goal

pub returns-clause-some : goal.returns-clause-some
returns-clause-some c sent status response = some_result sent status response

pub returns-clause-one : goal.returns-clause-one
returns-clause-one c sent status response a b h k = one_result sent status response a b h k
