use Rattle.{std.{proofs.Common.{◌≡◌, length}, specs.List.list_any}, decide_preconditions.specs.RangeSets.elements}
use Rattle.decide_preconditions.specs.RangeSets.{selects_some}
use Rattle.decide_preconditions.proofs.range_set.is_satisfiable.Given as goal

abbrev pub invariant-loop-element : goal.invariant-loop-element
invariant-loop-element l = list_any (selects_some l.len) l.left ≡ list_any (selects_some l.len) (elements l.set)

abbrev pub decreases-loop-element : goal.decreases-loop-element
decreases-loop-element l = length l.left
