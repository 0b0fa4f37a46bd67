use Rattle.cache_rules.proofs.SelectionLemmas.{any_chosen, varying_chosen}
use Rattle.cache_rules.proofs.selection.select.Goals as goal

pub returns-in-Some : goal.returns-in-Some
returns-in-Some c = varying_chosen _ _ _ (rw c.in-Some.is at c.most_recent.ensures)

pub returns-in-None : goal.returns-in-None
returns-in-None c = any_chosen _ _ (rw c.in-None.is at c.most_recent.ensures) _ c.most_recent-in-None.ensures
