use Rattle.{cache_store.proofs.EntryLemmas.counted-later, std.proofs.Common.arith}
use Rattle.cache_store.proofs.store.Store.take_numbers.Goals as goal

pub invariant_of-self : goal.invariant_of-self
invariant_of-self c = let counted = counted-later c.args.self.now.counted (omega (arith, c.in_ok-self.ensures.ok.0)) in
    record { unbounded = c.args.self.now.unbounded; counted = counted }
