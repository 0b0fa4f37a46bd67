use Rattle.{std.proofs.Common.{◌≡◌, ◌≤◌, take}, cache_store.specs.Contents.bytes_at}
use Rattle.cache_store.proofs.entries.bytes_within.Given as goal

abbrev pub invariant-loop-response : goal.invariant-loop-response
invariant-loop-response l = record {
  bytes : l.bytes ≡ bytes_at l.target (take l.response-index l.responses);
  within : l.bytes ≤ l.most;
}
