use Rattle.{cache_store.proofs.GoOnLemmas.goes-without, std.proofs.Common.arith}
use Rattle.cache_store.proofs.store.Store.remove.Goals as goal

pub returns-clause-numbers : goal.returns-clause-numbers
returns-clause-numbers c = goes-without _ _ _ _ (omega (arith, c.take_out.ensures.next)) _ c.take_out.ensures.contents
