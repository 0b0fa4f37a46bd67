use Rattle.cache_policy.proofs.StrictLemmas.{malformed_request_is_validated, malformed_request_not_stored}
use Rattle.cache_policy.proofs.laws.malformed_request_is_strict.Goals as goal

pub returns-clause-stored : goal.returns-clause-stored
returns-clause-stored c = λ kind request status response. malformed_request_not_stored kind request status response

pub returns-clause-validated : goal.returns-clause-validated
returns-clause-validated c = λ kind stored request response freshness decision. malformed_request_is_validated kind
    stored request response freshness decision
