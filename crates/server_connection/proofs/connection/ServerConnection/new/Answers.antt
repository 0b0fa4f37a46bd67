use Rattle.{std.proofs.Common.refl, server_connection.specs.{Connection.IsReached.begun, Machine.new_past}}
use Rattle.server_connection.proofs.TurnLemmas.{laid_first, runs_by}
use Rattle.server_connection.proofs.connection.ServerConnection.new.Goals as goal

pub returns-clause-begins : goal.returns-clause-begins
returns-clause-begins g c = λ first.
    let plans = g.A.Application.plans in
    let gives = g.A.Application.gives in
    let m = c.new.result in
    begun m c.new.ensures.config (runs_by plans gives first first m new_past c.new.ensures.phase (
      (first, refl, λ _. refl, laid_first plans gives first m c.new.ensures.state c.new.ensures.output),
      c.new.ensures.holds,
    ))
