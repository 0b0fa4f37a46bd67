use Rattle.decide_resource.proofs.OwnFieldLemmas.{allow_told, listed_is_had, unlisted_is_refused}
use Rattle.decide_resource.proofs.laws.options_agrees_with_methods.Goals as goal

pub returns-clause-told : goal.returns-clause-told
returns-clause-told c present resource request answer before a = allow_told present resource request answer a before

pub returns-clause-listed : goal.returns-clause-listed
returns-clause-listed c = listed_is_had

pub returns-clause-others : goal.returns-clause-others
returns-clause-others c = unlisted_is_refused
