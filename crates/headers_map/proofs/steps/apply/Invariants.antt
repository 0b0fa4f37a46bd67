use Rattle.std.{proofs.Common.{◌≡◌, ℕ, List, ◌++◌, length}, specs.Vec.Iter.into_iter_items, specs.List.All}
use Rattle.http_header.specs.HeaderMap.{get_all}
use Rattle.headers_map.{specs.LineMap.{lines_at, run, IsOfOther}, specs.declared.steps.Step.Step}
use Rattle.headers_map.proofs.steps.apply.Given as goal

abbrev pub invariant-loop-step : goal.invariant-loop-step
invariant-loop-step l =
    (first : List Step)
    × (first ++ into_iter_items l.left ≡ l.fn.steps.items)
    × (l.done ≡ length first)
    × ((name : List ℕ) → lines_at l.map name ≡ run (lines_at l.fn.map) first name)
    × ((name : List ℕ) → All (IsOfOther name) l.fn.steps.items → get_all l.map name ≡ get_all l.fn.map name)

abbrev pub decreases-loop-step : goal.decreases-loop-step
decreases-loop-step l = length (into_iter_items l.left)
