use Rattle.cache_rules.proofs.ConditionLemmas.{evaluated}
use Rattle.cache_rules.proofs.conditions.answer_conditions.Goals as goal

pub returns-clause-answer : goal.returns-clause-answer
returns-clause-answer c =
    rw c.answer_of.ensures (evaluated _ _ _ (rw c.if-not-is_for_cache.false at c.is_for_cache.ensures) _ _
    (rw c.if-not-is_ok.false at c.is_ok.ensures) c.in_ok-current.ensures _
    (rw (c.divisible-len.ensures, c.one_part-limits.ensures) at c.in_ok-plan.ensures.plan))
