use Rattle.{std.proofs.Common.{◌∙◌, ap, arith, length, sym}, cache_store.specs.Contents.{bytes_at, shown_entry}}
use Rattle.cache_store.proofs.EntryLemmas.{counted-less, counts-last, none-last, shown-last}
use Rattle.cache_store.proofs.store.Store.remove_last.Goals as goal

pub overflow_sub-self : goal.overflow_sub-self
overflow_sub-self c = let counts = counts-last _ _ (ap (λ m. m.entries) c.pop_lru.ensures.entries)
    (c.in-Some.target, c.in-Some.responses) (sym c.in-Some.ensures.value) in
    omega (arith, counts (λ entry. length entry.1), c.len.ensures, c.in-Some.responses.ok.0, c.args.self.now.counted)

pub bytes_at-requires : goal.bytes_at-requires
bytes_at-requires c = let counts = counts-last _ _ (ap (λ m. m.entries) c.pop_lru.ensures.entries)
    (c.in-Some.target, c.in-Some.responses) (sym c.in-Some.ensures.value) in
    rw (c.as_str.ensures.value, c.deref.ensures.value)
    (omega (arith, counts (λ entry. bytes_at entry.0 entry.1), c.args.self.now.counted))

pub overflow_sub-self-in-Some : goal.overflow_sub-self-in-Some
overflow_sub-self-in-Some c = let counts = counts-last _ _ (ap (λ m. m.entries) c.pop_lru.ensures.entries)
    (c.in-Some.target, c.in-Some.responses) (sym c.in-Some.ensures.value) in
    let size = rw (c.as_str.ensures.value, c.deref.ensures.value) at c.bytes_at.ensures in
    omega (arith, counts (λ entry. bytes_at entry.0 entry.1), c.args.self.now.counted)

pub invariant_of-self : goal.invariant_of-self
invariant_of-self c =
    let counts = counts-last _ _ (ap (λ m. m.entries) c.pop_lru.ensures.entries) (c.in-Some.target, c.in-Some.responses)
    (sym c.in-Some.ensures.value) in
    record {
      unbounded = ap (λ m. m.cap) c.pop_lru.ensures.entries ∙ c.args.self.now.unbounded;
      counted = rw (
        c.len.ensures ∙ c.in-Some.responses.ok.0,
        rw (c.as_str.ensures.value, c.deref.ensures.value) at c.bytes_at.ensures,
      ) (counted-less c.args.self.now.counted (shown_entry (c.in-Some.target, c.in-Some.responses))
          (λ m none. counts m));
    }

pub invariant_of-self-in_default : goal.invariant_of-self-in_default
invariant_of-self-in_default c =
    let same = none-last _ _ (sym c.in_default.ensures.value) (ap (λ m. m.entries) c.pop_lru.ensures.entries) in
    let unbounded = ap (λ m. m.cap) c.pop_lru.ensures.entries ∙ c.args.self.now.unbounded in
    record { unbounded = unbounded; counted = rw same c.args.self.now.counted }

pub returns-in-Some-clause-contents : goal.returns-in-Some-clause-contents
returns-in-Some-clause-contents c = shown-last _ _ (ap (λ m. m.entries) c.pop_lru.ensures.entries)

pub returns-in_default-clause-contents : goal.returns-in_default-clause-contents
returns-in_default-clause-contents c = shown-last _ _ (ap (λ m. m.entries) c.pop_lru.ensures.entries)
