use Rattle.decide_handshake.proofs.ServerLemmas.{one_answer, some_answer}
use Rattle.decide_handshake.proofs.laws.request_has_one_answer.Goals as goal

pub returns-clause-some : goal.returns-clause-some
returns-clause-some c method version request origins own = some_answer method version request origins own

pub returns-clause-one : goal.returns-clause-one
returns-clause-one c method version request origins own a b h k = one_answer method version request origins own a b h k
