use Rattle.{std.{proofs.Common.{◌≡◌, length}, specs.List.list_all}, decide_preconditions.specs.RangeSets.elements}
use Rattle.decide_preconditions.specs.RangeSets.{is_range_spec}
use Rattle.decide_preconditions.proofs.range_set.are_range_specs.Given as goal

abbrev pub invariant-loop-element : goal.invariant-loop-element
invariant-loop-element l = list_all is_range_spec l.left ≡ list_all is_range_spec (elements l.text)

abbrev pub decreases-loop-element : goal.decreases-loop-element
decreases-loop-element l = length l.left
