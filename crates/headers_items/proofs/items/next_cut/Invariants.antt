use Rattle.{headers_items.proofs.ItemsLemmas.PassesCuts, std.proofs.Common.{length, ◌-◌}}
use Rattle.headers_items.proofs.items.next_cut.Given as goal

abbrev pub invariant-loop-mark : goal.invariant-loop-mark
invariant-loop-mark l = PassesCuts l.initial.scan l.scan

abbrev pub decreases-loop-mark : goal.decreases-loop-mark
decreases-loop-mark l = length l.scan.bytes - l.scan.place
