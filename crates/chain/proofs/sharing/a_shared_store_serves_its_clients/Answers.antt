use Rattle.chain.proofs.PageLemmas.{sharing}
use Rattle.chain.proofs.sharing.a_shared_store_serves_its_clients.Goals as goal

pub returns : goal.returns
returns c = sharing
