use Rattle.{std.proofs.Common.{refl, arith}, updates.proofs.Examples.loses}
use Rattle.updates.proofs.runs.digests_let_a_put_act_twice.Goals as goal

pub returns-clause-lost : goal.returns-clause-lost
returns-clause-lost c = loses 2 0 refl refl refl (λ same. omega (arith, same))
