use Rattle.{std.proofs.Common.{◌≡◌, length}, decide_preconditions.specs.NumeralOrder.without_zeros}
use Rattle.decide_preconditions.proofs.range_set.without_zeros.Given as goal

abbrev pub invariant-loop-rest : goal.invariant-loop-rest
invariant-loop-rest l = without_zeros l.rest ≡ without_zeros l.fn.digits

abbrev pub decreases-loop-rest : goal.decreases-loop-rest
decreases-loop-rest l = length l.rest
