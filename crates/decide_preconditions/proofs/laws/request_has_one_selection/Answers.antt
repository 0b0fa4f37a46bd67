use Rattle.decide_preconditions.proofs.SelectionLemmas.{one_selection, some_selection}
use Rattle.decide_preconditions.proofs.laws.request_has_one_selection.Goals as goal

pub returns-clause-some : goal.returns-clause-some
returns-clause-some c = some_selection

pub returns-clause-one : goal.returns-clause-one
returns-clause-one c = one_selection
