use Rattle.cache_rules.proofs.ConditionLemmas.{no_tag}
use Rattle.cache_rules.proofs.conditions.tag_of.Goals as goal

pub returns-in-Err-Invalid : goal.returns-in-Err-Invalid
returns-in-Err-Invalid c = no_tag _ (rw c.in-Err-Invalid.field-0-is at c.in-Err-Invalid.ensures.value).1
