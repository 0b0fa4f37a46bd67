use Rattle.{std.proofs.Common.{◌≡◌, take}, cache_store.specs.Contents.bytes_at}
use Rattle.cache_store.proofs.entries.bytes_at.Given as goal

abbrev pub invariant-loop-response : goal.invariant-loop-response
invariant-loop-response l = l.bytes ≡ bytes_at l.target (take l.response-index l.responses)
