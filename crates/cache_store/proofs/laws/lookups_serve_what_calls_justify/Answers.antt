use Rattle.cache_store.proofs.HistoryLemmas.{lookup_served}
use Rattle.cache_store.proofs.laws.lookups_serve_what_calls_justify.Goals as goal

pub returns : goal.returns
returns c = lookup_served
