use Rattle.gateway_connection.proofs.ReaderLemmas.{all_take_plain_post}
use Rattle.gateway_connection.proofs.laws.readers_in_use_take_a_plain_request.Goals as goal

pub returns : goal.returns
returns c = all_take_plain_post
