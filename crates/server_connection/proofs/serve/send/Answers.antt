use Rattle.std.proofs.Common.{[]}
use Rattle.server_connection.proofs.TurnLemmas.{Appends-none, moves_out, moves_steps, stays_known}
use Rattle.server_connection.proofs.serve.send.Goals as goal

pub returns-in-Some : goal.returns-in-Some
returns-in-Some g c =
    let w = g.W.Write.contents c.args.writer.now in
    ([], Appends-none w w (stays_known w), moves_steps c.fill.ensures, c.fill.ensures.ended)

pub returns-in_err-write_to : goal.returns-in_err-write_to
returns-in_err-write_to g c =
    let out = c.in_err-write_to.ensures.err in
    ([], Appends-none _ _ out.1, moves_out c.args.handler.now 0 out.0, out.0.ended)

pub returns-in-0 : goal.returns-in-0
returns-in-0 g c =
    let out = c.in_ok-write_to.ensures.ok in
    (_, out.1, moves_out c.args.handler.now c.in_ok-write_to.field-0 out.0, out.0.ended)

pub returns-in_default-2 : goal.returns-in_default-2
returns-in_default-2 g c =
    let out = c.in_ok-write_to.ensures.ok in
    (_, out.1, moves_out c.args.handler.now c.in_ok-write_to.field-0 out.0, out.0.ended)
