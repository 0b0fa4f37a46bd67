use Rattle.std.proofs.Common.{ap, Ok}
use Rattle.cache_store.proofs.parts.store.PartStore.keep.Goals as goal

pub returns-in-Some-clause-kept : goal.returns-in-Some-clause-kept
returns-in-Some-clause-kept c = let range = rw c.get_all.ensures.value at c.if-not-has_line.ensures.present in
    let put = c.in_ok-store.ensures.stored c.in-Some.field-0 (ap Ok c.in-Some.is) in
    (λ none. none range, (put.0, put.1, put.2, put.4))
