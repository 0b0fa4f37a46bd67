use Rattle.decide_negotiation.proofs.LawLemmas.{one_choice as law}
use Rattle.decide_negotiation.proofs.laws.request_has_one_choice.Goals as goal

pub returns : goal.returns
returns g c = law g.D.Dimension.gives
