use Rattle.chain.proofs.CheckLemmas.{check_survives}
use Rattle.chain.proofs.laws.cors_check_survives_gateways.Goals as goal

pub returns : goal.returns
returns c gateways response last sent way none = check_survives gateways response last way none sent
