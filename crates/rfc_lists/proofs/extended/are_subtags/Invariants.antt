use Rattle.{std.proofs.Common.{◌≡◌, length}, rfc_lists.specs.Extended.are_subtags}
use Rattle.rfc_lists.proofs.extended.are_subtags.Given as goal

abbrev pub invariant-loop-subtag : goal.invariant-loop-subtag
invariant-loop-subtag l = are_subtags l.text ≡ are_subtags l.left

abbrev pub decreases-loop-subtag : goal.decreases-loop-subtag
decreases-loop-subtag l = length l.left
