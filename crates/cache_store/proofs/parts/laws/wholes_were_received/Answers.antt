use Rattle.cache_store.proofs.parts.HistoryLemmas.{whole_received}
use Rattle.cache_store.proofs.parts.laws.wholes_were_received.Goals as goal

pub returns : goal.returns
returns c = whole_received
