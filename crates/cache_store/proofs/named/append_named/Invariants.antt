use Rattle.{std.proofs.Common.{◌++◌, ◌≡◌, List}, headers.specs.{LineMap.lines_at, Lines.lines_of}}
use Rattle.{cache_store.proofs.NamedLemmas.Continues, url.specs.Parts.Parts}
use Rattle.cache_store.proofs.named.append_named.Given as goal

abbrev pub invariant-loop-value : goal.invariant-loop-value
invariant-loop-value l = record {
  named : List Parts;
  put : l.urls.items ≡ l.fn.urls.items ++ named;
  are : Continues l.fn.base (lines_at l.fn.response l.fn.name) named (lines_of l.value-iterator);
}
