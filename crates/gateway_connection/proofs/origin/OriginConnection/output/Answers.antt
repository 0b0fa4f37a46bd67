use Rattle.gateway_connection.proofs.HistoryLemmas.{exchanged}
use Rattle.gateway_connection.proofs.origin.OriginConnection.output.Goals as goal

pub returns-clause-theorem : goal.returns-clause-theorem
returns-clause-theorem c = λ limits past reached. exchanged reached
