use Rattle.updates.proofs.OwnWrites.{reads-own, run-ordered, start-ordered}
use Rattle.updates.proofs.laws.clients_read_their_writes.Goals as goal

pub returns : goal.returns
returns c routes first events routed invalidates timely older =
    reads-own routes _ (run-ordered routes events _ routed invalidates timely (start-ordered routes first)) older
