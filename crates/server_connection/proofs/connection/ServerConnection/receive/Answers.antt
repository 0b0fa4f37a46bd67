use Rattle.std.{proofs.Common.[], proofs.lemmas.Result.{on_err_weaker, on_ok_weaker}}
use Rattle.server_connection.proofs.TurnLemmas.{moves_in, moves_none}
use Rattle.server_connection.proofs.connection.ServerConnection.receive.Goals as goal

pub returns-then-self-clause-err : goal.returns-then-self-clause-err
returns-then-self-clause-err g c = λ now. moves_none c.args.self.now.machine now

pub returns-clause-ok : goal.returns-clause-ok
returns-clause-ok g c =
    on_ok_weaker c.receive.result (λ takes now. moves_in now c.args.bytes.now c.requires takes) c.receive.ensures.ok

pub returns-clause-err : goal.returns-clause-err
returns-clause-err g c =
    on_err_weaker c.receive.result (λ takes now. moves_in now [] c.requires takes) c.receive.ensures.err
