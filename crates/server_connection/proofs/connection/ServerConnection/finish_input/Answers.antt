use Rattle.{std.proofs.Common.[], server_connection.proofs.TurnLemmas.moves_in}
use Rattle.server_connection.proofs.connection.ServerConnection.finish_input.Goals as goal

pub returns-clause-moves : goal.returns-clause-moves
returns-clause-moves g c = λ now. moves_in now [] c.requires c.finish_input.ensures.takes
