use Rattle.{std.proofs.Common.{◌≡◌, ◌+◌, take, arith}, decide_preconditions.specs.RangeSets.capped}
use Rattle.decide_preconditions.proofs.NumeralLemmas.{capped_more}
use Rattle.decide_preconditions.proofs.range_set.capped_value.Goals as goal

pub loop-byte-preserved : goal.loop-byte-preserved
loop-byte-preserved c =
    let more = capped_more c.args.digits.now c.loop-byte.byte-index c.loop-byte-test.true c.requires in
    let e : c.saturating_add-number.result ≡ capped (take (c.loop-byte.byte-index + 1) c.args.digits.now) = omega (
      arith,
      more,
      c.saturating_add-number.ensures,
      c.saturating_mul.ensures,
      c.saturating_sub.ensures,
      c.from.ensures,
      c.loop-byte.invariant,
    ) in e
