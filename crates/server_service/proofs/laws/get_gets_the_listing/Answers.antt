use Rattle.server_service.proofs.WholeLemmas.{get_listing}
use Rattle.server_service.proofs.laws.get_gets_the_listing.Goals as goal

pub returns : goal.returns
returns c = get_listing
