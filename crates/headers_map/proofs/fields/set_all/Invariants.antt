use Rattle.std.{proofs.Common.{◌≡◌, ℕ, List, ◌++◌, length}, specs.Vec.Iter.into_iter_items, specs.List.All}
use Rattle.http_header.specs.HeaderMap.{get_all}
use Rattle.headers_map.{specs.LineMap.{lines_at, run, settings, IsFieldOfOther}, specs.declared.encoded.Encoded.Encoded}
use Rattle.headers_map.proofs.fields.set_all.Given as goal

abbrev pub invariant-loop-field : goal.invariant-loop-field
invariant-loop-field l =
    record {
      first : List Encoded;
      split : first ++ into_iter_items l.left ≡ l.fn.fields.items;
      count : l.done ≡ length first;
      ran : (name : List ℕ) → lines_at l.map name ≡ run (lines_at l.fn.map) (settings first) name;
      others : (name : List ℕ) → All (IsFieldOfOther name) l.fn.fields.items
          → get_all l.map name ≡ get_all l.fn.map name;
    }

abbrev pub decreases-loop-field : goal.decreases-loop-field
decreases-loop-field l = length (into_iter_items l.left)
