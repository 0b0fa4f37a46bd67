use Rattle.server_connection.proofs.TurnLemmas.{HasRun}
use Rattle.server_connection.proofs.serve.serve_exchanges.Given as goal

abbrev pub invariant-loop : goal.invariant-loop
invariant-loop g l = HasRun g.H.Handler.plans g.H.Handler.gives l.fn.config l.fn.handler
    (g.R.Read.remaining l.fn.reader) (g.R.Read.remaining l.reader) (g.W.Write.contents l.fn.writer)
    (g.W.Write.contents l.writer) l.connection.machine l.handler
