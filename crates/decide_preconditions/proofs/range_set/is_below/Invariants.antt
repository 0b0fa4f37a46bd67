use Rattle.{std.proofs.Common.{◌≡◌, length}, decide_preconditions.specs.NumeralOrder.is_below}
use Rattle.decide_preconditions.proofs.range_set.is_below.Given as goal

abbrev pub invariant-loop-digits : goal.invariant-loop-digits
invariant-loop-digits l = is_below l.digits l.others ≡ is_below l.fn.first l.fn.last

abbrev pub decreases-loop-digits : goal.decreases-loop-digits
decreases-loop-digits l = length l.digits
