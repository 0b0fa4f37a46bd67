use Rattle.{cache_policy.proofs.ExistenceLemmas.some_lifetime, cache_fields.proofs.FreshnessLemmas.one_lifetime}
use Rattle.cache_policy.proofs.laws.response_has_one_lifetime.Goals as goal

pub returns-clause-some : goal.returns-clause-some
returns-clause-some c = λ kind received response. some_lifetime kind received response

pub returns-clause-one : goal.returns-clause-one
returns-clause-one c = λ kind received response a b. one_lifetime kind received response a b
