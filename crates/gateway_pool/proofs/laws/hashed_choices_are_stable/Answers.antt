use Rattle.gateway_pool.proofs.Origins.{hashed-same}
use Rattle.gateway_pool.proofs.laws.hashed_choices_are_stable.Goals as goal

pub returns : goal.returns
returns c = hashed-same
