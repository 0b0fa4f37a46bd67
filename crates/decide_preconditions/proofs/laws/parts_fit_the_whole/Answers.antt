use Rattle.decide_preconditions.proofs.PartLemmas.{sizes_of_coalesced}
use Rattle.decide_preconditions.proofs.laws.parts_fit_the_whole.Goals as goal

pub returns : goal.returns
returns c = sizes_of_coalesced
