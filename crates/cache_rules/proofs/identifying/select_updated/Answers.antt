use Rattle.cache_rules.proofs.IdentifyingLemmas.{answered_alone, answered_by_validator}
use Rattle.cache_rules.proofs.identifying.select_updated.Goals as goal

pub returns-then-has_validator : goal.returns-then-has_validator
returns-then-has_validator c =
    answered_by_validator _ _ _ (rw c.if-has_validator.true at c.has_validator.ensures) _ c.most_recent.ensures

pub returns-else-has_validator : goal.returns-else-has_validator
returns-else-has_validator c = answered_alone _ _ _ c.if-has_validator.ensures _ c.only_updated.ensures
