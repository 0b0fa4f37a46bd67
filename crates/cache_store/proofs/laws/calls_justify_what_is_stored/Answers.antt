use Rattle.cache_store.proofs.HistoryLemmas.{run-justified}
use Rattle.cache_store.proofs.laws.calls_justify_what_is_stored.Goals as goal

pub returns : goal.returns
returns c = run-justified
