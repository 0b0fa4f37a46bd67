use Rattle.std.{proofs.Common.{◌≡◌, ◌≢◌, ℕ, ◌<◌, List, ◌++◌, length}, specs.Vec.Iter.into_iter_items}
use Rattle.http_header.specs.HeaderMap.{get_all}
use Rattle.headers_map.proofs.insert.put_lines.Given as goal

abbrev pub invariant-loop-line : goal.invariant-loop-line
invariant-loop-line l =
    record {
      own : get_all l.map l.name ++ into_iter_items l.left ≡ l.fn.lines.items;
      begun : 0 < length (get_all l.map l.name);
      others : (other : List ℕ) → l.name ≢ other → get_all l.map other ≡ get_all l.fn.map other;
    }

abbrev pub decreases-loop-line : goal.decreases-loop-line
decreases-loop-line l = length (into_iter_items l.left)
