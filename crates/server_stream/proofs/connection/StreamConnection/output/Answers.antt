use Rattle.server_stream.proofs.HistoryLemmas.{exchanged}
use Rattle.server_stream.proofs.connection.StreamConnection.output.Goals as goal

pub returns-clause-theorem : goal.returns-clause-theorem
returns-clause-theorem c = λ limits past reached. exchanged reached
