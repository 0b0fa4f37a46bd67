use Rattle.cache_pass.proofs.DateLemmas.{stored-was-asked}
use Rattle.cache_pass.proofs.laws.what_is_stored_was_asked_since_the_last_removal.Goals as goal

pub returns : goal.returns
returns c = stored-was-asked
