use Rattle.chain.proofs.InstanceLemmas.{instance}
use Rattle.chain.proofs.laws.a_chain_serves_from_its_store.Goals as goal

pub returns : goal.returns
returns c = instance
