use Rattle.std.{proofs.Common.{sym, subst, inr}, proofs.lemmas.List.take-append-le}
use Rattle.server_connection.proofs.TurnLemmas.{step_sends}
use Rattle.server_connection.proofs.serve.fill.Goals as goal

pub returns-in-Ok : goal.returns-in-Ok
returns-in-Ok g c = step_sends c.args.connection.now.machine c.fill.new.self c.args.handler.now c.requires.1
    c.requires.0 (c.fill.ensures c.args.handler.now c.args.extent c.requires
    (subst (g.H.Handler.gives c.args.handler.now c.args.extent.start)
    (sym (take-append-le c.in-Ok.count c.read.new.buffer _ c.in-Ok.ensures.bound.0)) c.in-Ok.ensures.bytes))

pub returns-in-Ok-eq0 : goal.returns-in-Ok-eq0
returns-in-Ok-eq0 g c = step_sends c.args.connection.now.machine c.cut_off.new.self c.args.handler.now c.requires.1
    c.requires.0 (inr (inr c.cut_off.ensures))
