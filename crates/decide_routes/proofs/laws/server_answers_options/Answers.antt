use Rattle.decide_routes.proofs.NowhereLemmas.{never_refused, options_told, others_missing}
use Rattle.decide_routes.proofs.laws.server_answers_options.Goals as goal

pub returns-clause-options : goal.returns-clause-options
returns-clause-options c present resource request answer wide is = options_told resource wide present request answer is

pub returns-clause-missing : goal.returns-clause-missing
returns-clause-missing c present resource request answer wide is =
    others_missing resource wide present request answer is

pub returns-clause-allowed : goal.returns-clause-allowed
returns-clause-allowed c present resource request answer wide = never_refused resource wide.rules present request answer
