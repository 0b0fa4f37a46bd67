use Rattle.{std.proofs.Common.arith, interference.proofs.Own.always}
use Rattle.interference.proofs.laws.clients_get_their_own_answers.Goals as goal

pub returns-clause-content : goal.returns-clause-content
returns-clause-content c origin clients events received says strong has =
    grind (arith, (always origin clients strong events).received received has)

pub returns-clause-answer : goal.returns-clause-answer
returns-clause-answer c origin clients events received says strong has =
    grind (arith, (always origin clients strong events).received received has)
