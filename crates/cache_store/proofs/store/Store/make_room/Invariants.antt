use Rattle.std.proofs.Common.{◌≡◌, length}
use Rattle.cache_store.{specs.Kept.{contents_of, policy_of_store}, proofs.EntryLemmas.IsFrontWithout}
use Rattle.cache_store.proofs.store.Store.make_room.Given as goal

abbrev pub invariant-loop-self : goal.invariant-loop-self
invariant-loop-self l = record {
  front : IsFrontWithout l.fn.self.limits l.responses l.bytes (contents_of l.fn.self) (contents_of l.self);
  policy : policy_of_store l.self ≡ policy_of_store l.fn.self;
  limits : l.self.limits ≡ l.fn.self.limits;
  next : l.self.next ≡ l.fn.self.next;
}

abbrev pub decreases-loop-self : goal.decreases-loop-self
decreases-loop-self l = length (contents_of l.self)
