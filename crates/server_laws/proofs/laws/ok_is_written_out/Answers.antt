use Rattle.server_laws.proofs.Served.{ok_sent}
use Rattle.server_laws.proofs.laws.ok_is_written_out.Goals as goal

pub returns : goal.returns
returns c limits head framing plan now tag media_type status short fields minor keeps other none =
    (ok_sent limits head framing plan now tag media_type status short fields minor keeps other none).0
