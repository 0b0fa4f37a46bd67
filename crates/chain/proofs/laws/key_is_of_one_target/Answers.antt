use Rattle.chain.proofs.StoreLemmas.{one_key}
use Rattle.chain.proofs.laws.key_is_of_one_target.Goals as goal

pub returns-clause-target : goal.returns-clause-target
returns-clause-target c target other r s h k e = (one_key target other r s h k e).target

pub returns-clause-host : goal.returns-clause-host
returns-clause-host c target other r s h k e = (one_key target other r s h k e).host
