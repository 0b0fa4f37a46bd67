use Rattle.std.proofs.Common.{length}
use Rattle.headers_items.{specs.ItemsState.{items_left, is_entry}, proofs.PassingLemmas.PassesUnwanted}
use Rattle.headers_items.proofs.entries.next_entry.Given as goal

abbrev pub invariant-loop-item : goal.invariant-loop-item
invariant-loop-item l = PassesUnwanted is_entry l.initial.items l.items

abbrev pub decreases-loop-item : goal.decreases-loop-item
decreases-loop-item l = length (items_left l.items)
