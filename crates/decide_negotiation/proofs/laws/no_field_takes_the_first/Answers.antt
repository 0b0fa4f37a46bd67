use Rattle.decide_negotiation.proofs.LawLemmas.{chooses_first as law}
use Rattle.decide_negotiation.proofs.laws.no_field_takes_the_first.Goals as goal

pub returns : goal.returns
returns g c = law g.D.Dimension.gives
