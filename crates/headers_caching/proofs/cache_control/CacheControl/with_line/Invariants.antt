use Rattle.headers_items.{specs.Entries.line_entries, specs.ItemsState.entries_left}
use Rattle.headers_caching.proofs.LineLemmas.{ReadSoFar}
use Rattle.headers_caching.proofs.cache_control.CacheControl.with_line.Given as goal

abbrev pub invariant-loop-entry : goal.invariant-loop-entry
invariant-loop-entry l = ReadSoFar l.fn.self l.after (line_entries l.fn.line.bytes) (entries_left l.entry-iterator)
