use Rattle.gateway_connection.proofs.ReaderLemmas.{two_readers}
use Rattle.gateway_connection.proofs.laws.readers_cut_plain_requests_alike.Goals as goal

pub returns : goal.returns
returns c = two_readers
