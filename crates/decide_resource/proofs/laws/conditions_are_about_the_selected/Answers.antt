use Rattle.decide_resource.proofs.ConditionLemmas.{same_place}
use Rattle.decide_resource.proofs.laws.conditions_are_about_the_selected.Goals as goal

pub returns : goal.returns
returns c = same_place
