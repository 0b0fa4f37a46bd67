use Rattle.cache_policy.proofs.StrictLemmas.{head, written, written_unstored}
use Rattle.cache_policy.proofs.laws.methods_bound_reuse.Goals as goal

pub returns-clause-written : goal.returns-clause-written
returns-clause-written c =
    λ kind stored request response freshness decision. written kind stored request response freshness decision

pub returns-clause-written_unstored : goal.returns-clause-written_unstored
returns-clause-written_unstored c = λ request decision. written_unstored request decision

pub returns-clause-head : goal.returns-clause-head
returns-clause-head c =
    λ kind stored request response freshness decision. head kind stored request response freshness decision
