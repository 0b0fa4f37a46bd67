use Rattle.std.proofs.lemmas.Result.{IfOk-weaker, on_err_weaker}
use Rattle.cache_store.proofs.LookupLemmas.{answer_decided, has_fields}
use Rattle.cache_store.proofs.lookup.answer.Goals as goal

pub returns-in-Some-clause-answer : goal.returns-in-Some-clause-answer
returns-in-Some-clause-answer c =
    IfOk-weaker c.found.result _ _ (λ lookup is. answer_decided _ _ _ _ _ _ c.in-Some.ensures _ c.requires _
    c.index-responses-place.is _ c.age_of-age.ensures c.decision_for-decision.ensures lookup is) c.found.ensures.answer

pub returns-in-Some-clause-memory : goal.returns-in-Some-clause-memory
returns-in-Some-clause-memory c = on_err_weaker _ (λ other. has_fields _ _ _ _ _ _ c.in-Some.ensures _ c.requires
    _ c.index-responses-place.is _ c.age_of-age.ensures c.decision_for-decision.ensures other) c.found.ensures.memory
