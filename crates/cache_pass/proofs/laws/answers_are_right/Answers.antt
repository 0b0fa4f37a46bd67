use Rattle.cache_pass.proofs.RightLemmas.{answers-right}
use Rattle.cache_pass.proofs.laws.answers_are_right.Goals as goal

pub returns : goal.returns
returns c = answers-right
