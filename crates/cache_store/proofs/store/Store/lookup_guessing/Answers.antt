use Rattle.{std.proofs.Common.arith, cache_store.proofs.{GoOnLemmas.goes-used, NumberLemmas.distinct-at}}
use Rattle.cache_store.proofs.store.Store.lookup_guessing.Goals as goal

pub answer-requires : goal.answer-requires
answer-requires c = rw c.responses.ensures (distinct-at _ _ _ c.touch.new.self.counted.numbered)

pub returns-clause-numbers : goal.returns-clause-numbers
returns-clause-numbers c = goes-used _ _ _ _ (omega (arith, c.touch.ensures.next)) _ c.touch.ensures.contents
