use Rattle.{headers_items.specs.Merge.merge, headers_syntax.proofs.OfLinesLemmas.OfLinesSoFar}
use Rattle.{http_header.specs.FieldValue.IsFieldValue, std.proofs.Common.{◌∷◌, ◌≡◌}}
use Rattle.headers_items.proofs.flat_csv.joined.Given as goal

abbrev pub invariant-loop-line : goal.invariant-loop-line
invariant-loop-line g l = record {
  can : (goal.iterator-loop-line g).can_next l.others;
  finite : (goal.iterator-loop-line g).is_finite l.others;
  valid : IsFieldValue l.buffer.items;
  so_far : OfLinesSoFar g.I.Item.AsHeaderValue.shown g.I.Iterator.next_gives l.fn.others l.others
      (λ lines. l.buffer.items ≡ merge g.S.Separator.BYTE (l.first.bytes ∷ l.second.bytes ∷ lines));
}
