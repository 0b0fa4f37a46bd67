use Rattle.cache_rules.specs.Stored.{fields_of_stored, request_of_stored}
use Rattle.chain.proofs.{SharingLemmas.matching, SuitLemmas.no_star}
use Rattle.chain.proofs.sharing.what_is_selected_matches.Goals as goal

pub returns-clause-matching : goal.returns-clause-matching
returns-clause-matching c policy request stored target head shared may suits same = matching policy shared target
    stored.status (fields_of_stored stored) head same (request_of_stored stored) request may suits

pub returns-clause-star : goal.returns-clause-star
returns-clause-star c request stored has suits =
    no_star (request_of_stored stored).fields request.fields _ suits.fields has
