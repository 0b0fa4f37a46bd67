use Rattle.headers_ranges.proofs.RangeLemmas.{range_value}
use Rattle.headers_ranges.proofs.range.Range.from_text.Goals as goal

pub unreachable-requires : goal.unreachable-requires
unreachable-requires c =
    c.in-Err-Invalid.ensures.invalid.0 (rw c.in-Err-Invalid.field-0-is tt) (range_value _ _ c.deref.ensures c.requires)
