use Rattle.decide_routes.proofs.NowhereLemmas.{never_refused, not_found}
use Rattle.decide_routes.proofs.laws.unknown_path_is_not_found.Goals as goal

pub returns-clause-missing : goal.returns-clause-missing
returns-clause-missing c present resource request answer nowhere = not_found resource nowhere present request answer

pub returns-clause-allowed : goal.returns-clause-allowed
returns-clause-allowed c present resource request answer nowhere =
    never_refused resource nowhere.rules present request answer
