use Rattle.server_connection.specs.Machine.{Leads, work}
use Rattle.server_connection.proofs.connection.ServerConnection.next.Given as goal

abbrev pub invariant-loop-spans : goal.invariant-loop-spans
invariant-loop-spans g l =
    (now : g.row.A.Denot) → Leads g.A.Application.plans g.A.Application.gives l.fn.self.machine now l.self.machine now

abbrev pub decreases-loop-spans : goal.decreases-loop-spans
decreases-loop-spans g l = work l.self.machine
