use Rattle.cache_store.proofs.LawLemmas.{stored-may-be}
use Rattle.cache_store.proofs.laws.what_is_stored_may_be_stored.Goals as goal

pub returns : goal.returns
returns c = stored-may-be
