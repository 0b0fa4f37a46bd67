use Rattle.headers_ranges.proofs.RangeLemmas.{rest_found}
use Rattle.headers_ranges.proofs.range.Range.rest.Goals as goal

pub unwrap-requires : goal.unwrap-requires
unwrap-requires c = rest_found c.as_str.result.now _ _ c.as_str.ensures c.self.invariant c.strip_prefix.ensures.cases
