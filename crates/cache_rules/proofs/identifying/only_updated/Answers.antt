use Rattle.cache_rules.proofs.IdentifyingLemmas.{none_identified, only_identified}
use Rattle.cache_rules.proofs.identifying.only_updated.Goals as goal

pub returns-in-Some : goal.returns-in-Some
returns-in-Some c =
    only_identified _ _ _ c.requires _ (rw c.in-Some.is at c.only_candidate.ensures) _ c.most_recent.ensures

pub returns-in-None : goal.returns-in-None
returns-in-None c = none_identified _ _ _ c.requires (rw c.in-None.is at c.only_candidate.ensures)
