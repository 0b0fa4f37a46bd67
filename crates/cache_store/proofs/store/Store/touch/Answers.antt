use Rattle.{std.proofs.Common.{◌∙◌, ap}, cache_store.proofs.EntryLemmas.{counted-used, shown-used}}
use Rattle.cache_store.proofs.store.Store.touch.Goals as goal

pub returns-clause-contents : goal.returns-clause-contents
returns-clause-contents c = shown-used c.args.target.now c.args.self.now.targets.entries c.promote.new.self.entries
    (ap (λ m. m.entries) c.promote.ensures.entries) c.len-targets.ensures.valid.0

pub invariant_of-self : goal.invariant_of-self
invariant_of-self c = record {
  unbounded = ap (λ m. m.cap) c.promote.ensures.entries ∙ c.args.self.now.unbounded;
  counted = counted-used c.args.self.now.counted c.args.target.now
      (shown-used c.args.target.now c.args.self.now.targets.entries c.promote.new.self.entries
      (ap (λ m. m.entries) c.promote.ensures.entries) c.len-targets.ensures.valid.0);
}
