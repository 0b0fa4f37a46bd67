use Rattle.interference.proofs.Twins.{interferes_not}
use Rattle.interference.proofs.laws.clients_learn_nothing_of_secrets.Goals as goal

pub returns : goal.returns
returns c watches secret origin other clients others events client requests answers vary =
    interferes_not watches secret origin other clients others requests answers vary events client
