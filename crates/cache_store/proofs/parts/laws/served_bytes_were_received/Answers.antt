use Rattle.cache_store.proofs.parts.HistoryLemmas.{served_received}
use Rattle.cache_store.proofs.parts.laws.served_bytes_were_received.Goals as goal

pub returns : goal.returns
returns c = served_received
