use Rattle.decide_resource.proofs.{AnswerLemmas.one_answer, ExistenceLemmas.some_answer}
use Rattle.decide_resource.proofs.laws.request_has_one_answer.Goals as goal

pub returns-clause-some : goal.returns-clause-some
returns-clause-some c = some_answer

pub returns-clause-one : goal.returns-clause-one
returns-clause-one c = one_answer
