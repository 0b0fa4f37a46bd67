use Rattle.std.{proofs.Common.{ap, is_ok, refl}, proofs.lemmas.Result.err_from_is_err_and}
use Rattle.server_connection.proofs.TurnLemmas.{cut_short, is_reached, run_ends, run_first, runs_on}
use Rattle.server_connection.proofs.serve.serve_exchanges.Goals as goal

pub returns-in_err-buffer : goal.returns-in_err-buffer
returns-in_err-buffer g c =
    let r = g.R.Read.remaining c.args.reader.now in
    let w = g.W.Write.contents c.args.writer.now in
    let p = err_from_is_err_and c.from_residual.result c.from_residual.ensures.1 in
    let run = run_first r w (c.new-connection.ensures.begins c.args.handler.now) c.new-connection.ensures.ended in
    run_ends r r w w _ (ap is_ok p.1) run (cut_short (is_reached run.4.turned))

pub loop-init : goal.loop-init
loop-init g c = run_first (g.R.Read.remaining c.args.reader.now) (g.W.Write.contents c.args.writer.now)
    (c.new-connection.ensures.begins c.args.handler.now) c.new-connection.ensures.ended

pub loop-preserved : goal.loop-preserved
loop-preserved g c = runs_on (g.R.Read.remaining c.args.reader.now) (g.W.Write.contents c.args.writer.now)
    c.turn.ensures c.loop.invariant

pub returns-in_err-turn : goal.returns-in_err-turn
returns-in_err-turn g c =
    let r = g.R.Read.remaining c.args.reader.now in
    let w = g.W.Write.contents c.args.writer.now in
    let run = runs_on r w c.turn.ensures c.loop.invariant in
    let p = err_from_is_err_and c.from_residual-in_err-turn.result c.from_residual-in_err-turn.ensures.1 in
    run_ends r (g.R.Read.remaining c.turn.new.reader) w (g.W.Write.contents c.turn.new.writer) _ (ap is_ok p.1) run
    (cut_short (is_reached run.4.turned))

pub returns-then-branch : goal.returns-then-branch
returns-then-branch g c =
    let r = g.R.Read.remaining c.args.reader.now in
    let w = g.W.Write.contents c.args.writer.now in
    let run = runs_on r w c.turn.ensures c.loop.invariant in
    run_ends r (g.R.Read.remaining c.turn.new.reader) w (g.W.Write.contents c.turn.new.writer) _ c.ending.ensures run
    (c.is_done.ensures.exchanged c.args.config c.args.handler.now c.turn.new.handler run.0 run.1
    (is_reached run.4.turned))

pub returns : goal.returns
returns g c =
    let run = c.loop.invariant in
    run_ends _ (g.R.Read.remaining c.loop.reader) _ (g.W.Write.contents c.loop.writer) _ refl run
    (cut_short (is_reached run.4.turned))
