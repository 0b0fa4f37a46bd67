use Rattle.{std.proofs.Common.arith, updates.proofs.Steps.holds}
use Rattle.updates.proofs.laws.clients_get_versions.Goals as goal

pub returns : goal.returns
returns c first events received version has shows = grind (arith, (holds first events).received received has)
