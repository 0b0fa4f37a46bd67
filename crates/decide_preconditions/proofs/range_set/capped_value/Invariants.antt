use Rattle.{std.proofs.Common.{◌≡◌, take}, decide_preconditions.specs.RangeSets.capped}
use Rattle.decide_preconditions.proofs.range_set.capped_value.Given as goal

abbrev pub invariant-loop-byte : goal.invariant-loop-byte
invariant-loop-byte l = l.number ≡ capped (take l.byte-index l.digits)
