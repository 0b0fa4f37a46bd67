use Rattle.c_gate.proofs.CallLemmas.{unfit}
use Rattle.c_gate.proofs.forwarding.forward_in.Goals as goal

pub returns-in_default : goal.returns-in_default
returns-in_default c = unfit c.args.held.now c.args.origin c.in_default.not-GateOrigin
