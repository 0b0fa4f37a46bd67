use Rattle.server_connection.proofs.TurnLemmas.{step_none, step_sends}
use Rattle.server_connection.proofs.machine.Machine.send_on.Goals as goal

pub returns-in-Some-clause-leads : goal.returns-in-Some-clause-leads
returns-in-Some-clause-leads g c = λ now. step_none c.args.self.now now

pub returns-clause-leads : goal.returns-clause-leads
returns-clause-leads g c = λ now.
    step_sends c.args.self.now c.send.new.self now c.requires.phase c.requires.state (c.send.ensures.sends now)
