use Rattle.cache_policy.proofs.DecisionLemmas.{one_decision, one_decision_by, one_unstored_answer}
use Rattle.cache_policy.proofs.ExistenceLemmas.{some_decision, some_decision_by, some_unstored}
use Rattle.cache_policy.proofs.laws.request_has_one_decision.Goals as goal

pub returns-clause-some : goal.returns-clause-some
returns-clause-some c = λ kind stored request response times. some_decision kind stored request response times

pub returns-clause-one : goal.returns-clause-one
returns-clause-one c = λ kind stored request response times a b. one_decision kind stored request response times a b

pub returns-clause-some_by : goal.returns-clause-some_by
returns-clause-some_by c =
    λ kind stored request response freshness. some_decision_by kind stored request response freshness

pub returns-clause-one_by : goal.returns-clause-one_by
returns-clause-one_by c =
    λ kind stored request response freshness a b. one_decision_by kind stored request response freshness a b

pub returns-clause-some_unstored : goal.returns-clause-some_unstored
returns-clause-some_unstored c = λ request. some_unstored request

pub returns-clause-one_unstored : goal.returns-clause-one_unstored
returns-clause-one_unstored c = λ request a b. one_unstored_answer request a b
