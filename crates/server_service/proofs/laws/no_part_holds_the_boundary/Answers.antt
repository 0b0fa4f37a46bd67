use Rattle.server_service.proofs.PartLemmas.{no_part_holds_boundary}
use Rattle.server_service.proofs.laws.no_part_holds_the_boundary.Goals as goal

pub returns : goal.returns
returns c = no_part_holds_boundary
