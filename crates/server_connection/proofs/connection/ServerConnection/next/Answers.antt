use Rattle.{std.proofs.Common.subst, server_connection.specs.{Connection.IsSaid, Machine.with_calls}}
use Rattle.server_connection.proofs.TurnLemmas.{leads_then, moves_steps, reached, step_none}
use Rattle.server_connection.proofs.connection.ServerConnection.next.Goals as goal

pub loop-spans-init : goal.loop-spans-init
loop-spans-init g c = λ now. step_none c.args.self.now.machine now

pub loop-spans-preserved : goal.loop-spans-preserved
loop-spans-preserved g c = λ now. leads_then (c.loop-spans.invariant now) (c.step.ensures.leads now)

pub returns-clause-moves : goal.returns-clause-moves
returns-clause-moves g c = λ now. moves_steps (leads_then (c.loop-spans.invariant now) (c.step.ensures.leads now))

pub returns-clause-ended : goal.returns-clause-ended
returns-clause-ended g c = λ now. (leads_then (c.loop-spans.invariant now) (c.step.ensures.leads now)).ended

pub returns-clause-rests : goal.returns-clause-rests
returns-clause-rests g c = λ said config first now received sent x.
    let y = reached x in
    let before = (c.loop-spans.invariant now).runs first y.past y.runs in
    let wants = subst (IsSaid c.step.new.self) said c.event.ensures in
    let after = c.step.ensures.rests c.loop-spans-test.false wants.1 now first (with_calls y.past before.0) before.1 in
    record {
      past = with_calls y.past before.0;
      is_received = y.is_received;
      is_sent = y.is_sent;
      runs = after.0;
      rests = after.1;
      empty = wants.2;
    }
