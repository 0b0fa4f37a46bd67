use Rattle.cache_policy.proofs.DecisionLemmas.{fresh_before, from_store_before}
use Rattle.cache_policy.proofs.laws.no_answer_gets_better.Goals as goal

pub returns-clause-stored : goal.returns-clause-stored
returns-clause-stored c =
    λ kind stored request response times later a b. from_store_before kind stored request response times later a b

pub returns-clause-fresh : goal.returns-clause-fresh
returns-clause-fresh c =
    λ kind stored request response times later a. fresh_before kind stored request response times later a
