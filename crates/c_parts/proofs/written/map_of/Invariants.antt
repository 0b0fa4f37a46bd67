use Rattle.std.{proofs.Common.{◌≡◌, ◌++◌, List, length}, specs.Vec.Iter.into_iter_items}
use Rattle.{http_header.specs.FieldValue.FieldValue, c_parts.proofs.WrittenLemmas.alone}
use Rattle.c_parts.proofs.written.map_of.Given as goal

abbrev pub invariant-loop-value : goal.invariant-loop-value
invariant-loop-value l = (taken : List FieldValue)
    × (l.map ≡ alone l.name taken)
    × (taken ++ into_iter_items l.left ≡ l.fn.values.items)
    × (l._count ≡ length l.fn.values.items)

abbrev pub decreases-loop-value : goal.decreases-loop-value
decreases-loop-value l = length (into_iter_items l.left)
