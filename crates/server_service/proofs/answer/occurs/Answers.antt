use Rattle.server_service.proofs.AnswerLemmas.{Occurs-from_find}
use Rattle.server_service.proofs.answer.occurs.Goals as goal

pub returns : goal.returns
returns c = rw c.is_some.ensures (Occurs-from_find _ _ _ c.find.ensures)
