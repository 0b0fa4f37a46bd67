use Rattle.decide_resource.proofs.SharedLemmas.{check_of_answer}
use Rattle.decide_resource.proofs.laws.answer_is_shared_by_rules.Goals as goal

pub returns : goal.returns
returns c present resource request answer rules policy before sent has a lawful made origin =
    check_of_answer present resource request answer policy has a before rules sent lawful made origin
