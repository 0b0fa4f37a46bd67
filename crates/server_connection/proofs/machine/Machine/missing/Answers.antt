use Rattle.{std.proofs.Common.{sym, arith}, server_connection.specs.Machine.core}
use Rattle.http_server.proofs.MachineLemmas.{starved_by_size}
use Rattle.server_connection.proofs.machine.Machine.missing.Goals as goal

pub returns-in-Known : goal.returns-in-Known
returns-in-Known c = λ some p.
    starved_by_size (core c.args.self.now p) c.in-Known.len (sym c.in-Known.ensures) (omega arith)
