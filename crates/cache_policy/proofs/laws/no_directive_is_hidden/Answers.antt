use Rattle.cache_policy.proofs.StrictLemmas.{no_cache, no_store, private, request_no_store}
use Rattle.cache_policy.proofs.laws.no_directive_is_hidden.Goals as goal

pub returns-clause-request_no_store : goal.returns-clause-request_no_store
returns-clause-request_no_store c = λ kind request status response. request_no_store kind request status response

pub returns-clause-no_store : goal.returns-clause-no_store
returns-clause-no_store c = λ kind request status response. no_store kind request status response

pub returns-clause-private : goal.returns-clause-private
returns-clause-private c = λ request status response. private request status response

pub returns-clause-no_cache : goal.returns-clause-no_cache
returns-clause-no_cache c =
    λ kind stored request response freshness decision. no_cache kind stored request response freshness decision
