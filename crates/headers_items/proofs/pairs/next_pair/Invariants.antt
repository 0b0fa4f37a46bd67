use Rattle.headers_items.{proofs.PassingLemmas.PassesUnwanted, specs.{ItemsState.items_left, Pairs.has_pair}}
use Rattle.{headers_items.specs.Pairs.pairs_left, std.proofs.Common.{length, ◌≡◌}}
use Rattle.headers_items.proofs.pairs.next_pair.Given as goal

abbrev pub invariant-loop-item : goal.invariant-loop-item
invariant-loop-item l = record {
  pairs : pairs_left l.items ≡ pairs_left l.initial.items;
  passes : PassesUnwanted has_pair l.initial.items l.items;
}

abbrev pub decreases-loop-item : goal.decreases-loop-item
decreases-loop-item l = length (items_left l.items)
