use Rattle.chain.proofs.SuitLemmas.{suited}
use Rattle.chain.proofs.laws.stored_answer_is_the_answer.Goals as goal

pub returns : goal.returns
returns c = suited c.vary_is_sound.ensures c.members_alone_select.ensures
