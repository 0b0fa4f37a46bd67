use Rattle.std.proofs.Common.{◌∙◌, ap, arith, length, refl}
use Rattle.cache_store.{proofs.EntryLemmas.counted-less, specs.Contents.bytes_at}
use Rattle.cache_store.proofs.store.Store.take_out.Goals as goal

pub overflow_sub-self : goal.overflow_sub-self
overflow_sub-self c = omega (
  arith,
  c.popped-taken.ensures.counts (λ entry. length entry.1) refl,
  c.len.ensures,
  c.popped-taken.result.ok.0,
)

pub bytes_at-requires : goal.bytes_at-requires
bytes_at-requires c = rw c.deref.ensures.value
    (omega (arith, c.popped-taken.ensures.counts (λ entry. bytes_at entry.0 entry.1) refl))

pub overflow_sub-self-2 : goal.overflow_sub-self-2
overflow_sub-self-2 c = let counts = c.bytes_at.ensures ∙ ap (bytes_at c.args.target.now) c.deref.ensures.value in
    omega (arith, c.popped-taken.ensures.counts (λ entry. bytes_at entry.0 entry.1) refl)

pub invariant_of-self : goal.invariant_of-self
invariant_of-self c = record {
  unbounded = c.popped-taken.ensures.cap ∙ c.args.self.now.unbounded;
  counted = rw (c.len.ensures ∙ c.popped-taken.result.ok.0) (rw (c.bytes_at.ensures ∙ ap (bytes_at c.args.target.now)
      c.deref.ensures.value) (counted-less c.args.self.now.counted
      (c.args.target.now, c.popped-taken.result.items) c.popped-taken.ensures.counts));
}
