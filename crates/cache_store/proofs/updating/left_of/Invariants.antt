use Rattle.std.{proofs.Common.{◌+◌, ◌≡◌, ◌≤◌, ◌⊎◌, length}, specs.{List.{All, Contains}, Vec.Iter.into_iter_items}}
use Rattle.{headers.specs.LineMap.lines_at, cache_policy.specs.{Policies.policy_of, Requests.request_of}}
use Rattle.{cache_rules.specs.declared.stored.StoredResponse.StoredResponse, cache_store.specs.History.Has}
use Rattle.cache_store.{specs.Updates.Becomes, proofs.{NumberLemmas.AreRenumbering, UpdateLemmas.Continues}}
use Rattle.cache_store.proofs.updating.left_of.Given as goal

abbrev pub invariant-loop-stored : goal.invariant-loop-stored
invariant-loop-stored l = record {
  left : Continues (λ old. Becomes (policy_of l.fn.policy) (request_of l.fn.request)
      (lines_at l.fn.update) l.fn.exchange old l.fn.by) l.fn.responses.items l.left.items (into_iter_items l.all);
  fewer : length l.left.items + length (into_iter_items l.all) ≤ length l.fn.responses.items;
  among : All (Contains l.fn.responses.items) (into_iter_items l.all);
  numbers : AreRenumbering l.first l.number l.fn.responses.items l.left.items (into_iter_items l.all);
  counted : l.number + length (into_iter_items l.all) ≡ l.first + length l.fn.responses.items;
  rises : l.first ≤ l.number;
  kept : (stored : StoredResponse) → Has l.left.items stored
      → Has l.fn.responses.items stored ⊎ (l.first ≤ stored.number);
  there : (stored : StoredResponse) → Has (into_iter_items l.all) stored → Has l.fn.responses.items stored;
}

abbrev pub decreases-loop-stored : goal.decreases-loop-stored
decreases-loop-stored l = length (into_iter_items l.all)
