use Rattle.cache_policy.proofs.StrictLemmas.{malformed_is_not_guessed, malformed_is_stale, malformed_is_validated}
use Rattle.cache_policy.proofs.StrictLemmas.{malformed_not_stored}
use Rattle.cache_policy.proofs.laws.malformed_response_is_strict.Goals as goal

pub returns-clause-stored : goal.returns-clause-stored
returns-clause-stored c = λ kind request status response. malformed_not_stored kind request status response

pub returns-clause-lifetime : goal.returns-clause-lifetime
returns-clause-lifetime c =
    λ kind received response stated malformed. malformed_is_stale kind received response malformed stated

pub returns-clause-guess : goal.returns-clause-guess
returns-clause-guess c = λ kind status received response guess malformed. malformed_is_not_guessed kind received
    response malformed status guess

pub returns-clause-validated : goal.returns-clause-validated
returns-clause-validated c = λ kind stored request response freshness decision. malformed_is_validated kind stored
    request response freshness decision
