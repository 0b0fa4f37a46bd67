use Rattle.server_service.proofs.OneResponseLemmas.{one_response}
use Rattle.server_service.proofs.laws.request_has_one_response.Goals as goal

pub returns : goal.returns
returns c = one_response
