use Rattle.std.proofs.{Common.inr, lemmas.Result.IfOk-weaker, lemmas.Result.on_err_weaker}
use Rattle.cache_store.proofs.parts.store.PartStore.merged.Goals as goal

pub returns-in-Some-clause-merged : goal.returns-in-Some-clause-merged
returns-in-Some-clause-merged c = IfOk-weaker c.combine.result _ _
    (λ result is. inr (c.in-Some.stored.now, c.in-Some.ensures, rw c.policy.ensures at is)) c.combine.ensures.combined

pub returns-in-Some-clause-memory : goal.returns-in-Some-clause-memory
returns-in-Some-clause-memory c =
    on_err_weaker c.combine.result (λ may. (c.in-Some.stored.now, c.in-Some.ensures, may)) c.combine.ensures.memory

pub returns-in-Some-clause-full : goal.returns-in-Some-clause-full
returns-in-Some-clause-full c = λ full. (c.in-Some.stored.now, c.in-Some.ensures, c.combine.ensures.full full)
