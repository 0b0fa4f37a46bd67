use Rattle.decide_resource.proofs.{AnswerLemmas.one_place, ChosenLemmas.some_place}
use Rattle.decide_resource.proofs.laws.request_selects_one_place.Goals as goal

pub returns-clause-some : goal.returns-clause-some
returns-clause-some c = some_place

pub returns-clause-one : goal.returns-clause-one
returns-clause-one c = one_place
