use Rattle.server_connection.proofs.TurnLemmas.{phased, stays_leads, step_none}
use Rattle.server_connection.proofs.machine.Machine.step.Goals as goal

pub returns-then-not-is_open-clause-leads : goal.returns-then-not-is_open-clause-leads
returns-then-not-is_open-clause-leads g c = λ now. step_none c.args.self.now now

pub returns-in-Receiving-clause-leads : goal.returns-in-Receiving-clause-leads
returns-in-Receiving-clause-leads g c = λ now. stays_leads (c.read.ensures.stays now)

pub returns-in-Receiving-clause-rests : goal.returns-in-Receiving-clause-rests
returns-in-Receiving-clause-rests g c = λ stops phase now first p x. (
  (c.read.ensures.stays now).runs first p x,
  c.read.ensures.rests stops phase p
      (phased g.A.Application.plans g.A.Application.gives first now c.args.self.now p c.in-Receiving.is x).1,
)
