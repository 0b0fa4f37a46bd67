use Rattle.cache_rules.proofs.SelectionLemmas.{one_choice}
use Rattle.cache_rules.proofs.laws.request_selects_one.Goals as goal

pub returns : goal.returns
returns c = one_choice
