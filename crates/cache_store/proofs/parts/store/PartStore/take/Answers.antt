use Rattle.{std.proofs.{Common.inr, lemmas.Result.IfOk-weaker}, headers_map.proofs.InsertLemmas.OnErr-from}
use Rattle.cache_store.proofs.parts.store.PartStore.take.Goals as goal

pub returns-in_err-part-clause-memory : goal.returns-in_err-part-clause-memory
returns-in_err-part-clause-memory c = OnErr-from _ (rw c.get_all.ensures.value at c.if-has_line.ensures.present)

pub returns-clause-taken : goal.returns-clause-taken
returns-clause-taken c = let alone = rw c.get_all.ensures.value at c.if-has_line.ensures.present in
    IfOk-weaker c.keep.result _ _
    (λ recorded kept. inr (alone, (c.in_ok-part.part, c.in_ok-part.ensures.recorded, kept))) c.keep.ensures.kept

pub returns-clause-memory : goal.returns-clause-memory
returns-clause-memory c = OnErr-from _ (rw c.get_all.ensures.value at c.if-has_line.ensures.present)

pub returns-clause-full : goal.returns-clause-full
returns-clause-full c = λ full. inr (c.in_ok-part.part, c.in_ok-part.ensures.recorded, c.keep.ensures.full full)
