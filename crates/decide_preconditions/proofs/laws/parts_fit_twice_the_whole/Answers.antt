use Rattle.decide_preconditions.proofs.SelectionLemmas.{parts_twice}
use Rattle.decide_preconditions.proofs.laws.parts_fit_twice_the_whole.Goals as goal

pub returns : goal.returns
returns c = parts_twice
