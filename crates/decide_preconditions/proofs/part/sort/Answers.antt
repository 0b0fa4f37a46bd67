use Rattle.std.proofs.{Common.rules, lemmas.List.Sorted.IsNonDecreasingBy-from_sort_by_key}
use Rattle.decide_preconditions.specs.declared.part.Part.{Part}
use Rattle.decide_preconditions.proofs.part.sort.Goals as goal

pub returns-clause-sorted : goal.returns-clause-sorted
returns-clause-sorted c = IsNonDecreasingBy-from_sort_by_key (λ (p : Part). p.first) _
    c.sort_unstable_by_key.ensures.sorted (λ a r q k. search rules)
