use Rattle.decide_resource.proofs.VaryLemmas.{vary_is_sound}
use Rattle.decide_resource.proofs.laws.vary_is_sound.Goals as goal

pub returns : goal.returns
returns c = vary_is_sound
