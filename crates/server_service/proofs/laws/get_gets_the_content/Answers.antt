use Rattle.server_service.proofs.WholeLemmas.{get_whole}
use Rattle.server_service.proofs.laws.get_gets_the_content.Goals as goal

pub returns : goal.returns
returns c = get_whole
