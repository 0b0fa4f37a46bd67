use Rattle.{std.proofs.Common.{◌≡◌, length}, cache_store.{proofs.StoringLemmas.IsTrimming, specs.Contents.bytes_at}}
use Rattle.cache_store.proofs.storing.trim.Given as goal

abbrev pub invariant-loop-limits : goal.invariant-loop-limits
invariant-loop-limits l = record {
  trimming : IsTrimming l.limits l.target l.size l.fn.responses.items l.responses.items;
  bytes : l.bytes ≡ bytes_at l.target l.responses.items;
}

abbrev pub decreases-loop-limits : goal.decreases-loop-limits
decreases-loop-limits l = length l.responses.items
