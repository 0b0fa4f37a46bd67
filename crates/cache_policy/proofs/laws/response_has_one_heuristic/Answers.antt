use Rattle.{cache_policy.proofs.ExistenceLemmas.some_heuristic, cache_fields.proofs.FreshnessLemmas.one_heuristic}
use Rattle.cache_policy.proofs.laws.response_has_one_heuristic.Goals as goal

pub returns-clause-some : goal.returns-clause-some
returns-clause-some c = λ kind status received response. some_heuristic kind status received response

pub returns-clause-one : goal.returns-clause-one
returns-clause-one c = λ kind status received response a b. one_heuristic kind status received response a b
