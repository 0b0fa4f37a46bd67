use Rattle.cache_store.proofs.UpdateLemmas.{becomes-none}
use Rattle.cache_store.proofs.updating.updated.Goals as goal

pub returns-in-Once-clause-updated : goal.returns-in-Once-clause-updated
returns-in-Once-clause-updated c = becomes-none _ _ _ _ _ _ (rw c.in-Once.is at c.in_ok-fresh.ensures.freshened)
