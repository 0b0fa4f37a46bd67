use Rattle.std.{proofs.Common.{◌≡◌, ◌++◌, length}, specs.List.filter_map}
use Rattle.decide_preconditions.specs.RangeSets.{elements, part_in}
use Rattle.decide_preconditions.proofs.range_set.parts_in.Given as goal

abbrev pub invariant-loop-element : goal.invariant-loop-element
invariant-loop-element l =
    l.parts.items ++ filter_map (part_in l.len) l.left ≡ filter_map (part_in l.len) (elements l.set)

abbrev pub decreases-loop-element : goal.decreases-loop-element
decreases-loop-element l = length l.left
