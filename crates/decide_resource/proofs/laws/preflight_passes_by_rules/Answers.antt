use Rattle.decide_resource.proofs.SharedLemmas.{preflight_of_answer}
use Rattle.decide_resource.proofs.laws.preflight_passes_by_rules.Goals as goal

pub returns : goal.returns
returns c present resource request answer rules policy before sent status has a lawful made asks ok =
    preflight_of_answer present resource request answer policy has a before rules sent status lawful made asks ok
