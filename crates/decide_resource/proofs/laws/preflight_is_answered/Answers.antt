use Rattle.decide_resource.proofs.OwnFieldLemmas.{preflight_told}
use Rattle.decide_resource.proofs.laws.preflight_is_answered.Goals as goal

pub returns : goal.returns
returns c present resource request answer rules policy before sent has a lawful made asks =
    preflight_told present resource request answer a before policy has rules sent lawful made asks
