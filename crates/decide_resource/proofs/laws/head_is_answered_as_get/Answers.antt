use Rattle.decide_resource.proofs.HeadLemmas.{answer_of_get}
use Rattle.decide_resource.proofs.laws.head_is_answered_as_get.Goals as goal

pub returns : goal.returns
returns c = answer_of_get
