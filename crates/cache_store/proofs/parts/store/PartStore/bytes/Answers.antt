use Rattle.std.proofs.Common.{IsSomeAnd, List, MatchOption, Option, subst, ℕ}
use Rattle.{cache_rules.specs.declared.stored.StoredResponse.StoredResponse, cache_store.specs.Parts.Answers.HasBytes}
use Rattle.cache_store.proofs.parts.store.PartStore.bytes.Goals as goal

pub returns : goal.returns
returns c = subst (λ (found : Option StoredResponse). MatchOption c.bytes_of_part.result
    ((bytes : List ℕ) → ¬ (IsSomeAnd found (λ stored. HasBytes stored c.args.part.now bytes))) (λ bytes. IsSomeAnd found
    (λ stored. HasBytes stored c.args.part.now bytes.now))) c.in_ok-stored.ensures c.bytes_of_part.ensures
