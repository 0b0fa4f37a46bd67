use Rattle.{std.proofs.Common.arith, interference.proofs.Own.always}
use Rattle.interference.proofs.laws.only_what_may_be_shared_is_shared.Goals as goal

pub returns-clause-matching : goal.returns-clause-matching
returns-clause-matching c origin clients events received strong has =
    ((always origin clients strong events).received received has).2

pub returns-clause-private : goal.returns-clause-private
returns-clause-private c origin clients events received strong has private =
    grind (arith, (always origin clients strong events).received received has)
