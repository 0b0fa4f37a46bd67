use Rattle.std.proofs.Common.{◌∙◌, ◌≡◌, ap, arith}
use Rattle.cache_store.{specs.Contents.bytes_at, proofs.EntryLemmas.{counted-more, put-absent, some-put}}
use Rattle.cache_store.proofs.store.Store.put_in.Goals as goal

pub invariant_of-self : goal.invariant_of-self
invariant_of-self c =
    let count = c.len.ensures ∙ c.args.kept.ok.0 in
    let more : c.in-Some.more ≡ bytes_at c.args.target.now c.args.kept.items =
    c.in-Some.ensures.0 ∙ ap (bytes_at c.args.target.now) c.deref.ensures.value in
    let are = c.args.self.now.counted in
    let put = put-absent c.args.target.now c.args.self.now.targets.entries c.put.new.self.entries
    c.args.self.now.targets.cap c.in_ok-key.key c.args.kept c.in_ok-key.ensures.ok c.requires.absent (omega (
      arith,
      c.len-targets.ensures.len,
      c.len-targets.ensures.fits,
      c.args.self.now.unbounded,
    )) (ap (λ m. m.entries) c.in-Ok.ensures.entries) in
    record {
      unbounded = ap (λ m. m.cap) c.in-Ok.ensures.entries ∙ c.args.self.now.unbounded;
      counted = rw (count, more) (counted-more are (c.args.target.now, c.args.kept.items) put
          (omega (arith, c.requires.few)) (omega (arith, c.in-Some.ensures.1, more, are.weighed, are.light))
          c.requires.numbers);
    }

pub returns-in-Ok-clause-ok : goal.returns-in-Ok-clause-ok
returns-in-Ok-clause-ok c = some-put _ _ _ (grind (arith, c.if-is_empty.false, c.is_empty.ensures, c.args.kept.ok.0))
    (put-absent c.args.target.now c.args.self.now.targets.entries c.put.new.self.entries c.args.self.now.targets.cap
    c.in_ok-key.key c.args.kept c.in_ok-key.ensures.ok c.requires.absent (omega (
      arith,
      c.len-targets.ensures.len,
      c.len-targets.ensures.fits,
      c.args.self.now.unbounded,
    )) (ap (λ m. m.entries) c.in-Ok.ensures.entries))
