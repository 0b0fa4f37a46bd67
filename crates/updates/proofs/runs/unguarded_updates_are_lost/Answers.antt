use Rattle.{std.proofs.Common.{refl, arith}, updates.proofs.Examples.loses}
use Rattle.updates.proofs.runs.unguarded_updates_are_lost.Goals as goal

pub returns : goal.returns
returns c = loses 1 0 refl refl refl (λ same. omega (arith, same))
