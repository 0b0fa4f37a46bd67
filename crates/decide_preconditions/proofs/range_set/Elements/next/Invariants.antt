use Rattle.{std.proofs.Common.{◌≡◌, length}, decide_preconditions.specs.RangeSets.elements_left}
use Rattle.headers.specs.ByteRanges.{pieces_left}
use Rattle.decide_preconditions.proofs.range_set.Elements.next.Given as goal

abbrev pub invariant-loop-piece : goal.invariant-loop-piece
invariant-loop-piece l = elements_left l.self-inside.rest ≡ elements_left l.initial.self-inside.rest

abbrev pub decreases-loop-piece : goal.decreases-loop-piece
decreases-loop-piece l = length (pieces_left l.self-inside.rest)
