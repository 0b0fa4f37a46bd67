use Rattle.c_gate.proofs.CallLemmas.{no_tunnel}
use Rattle.c_gate.proofs.moving.tunnel_of.Goals as goal

pub returns : goal.returns
returns c = no_tunnel c.args.held c.in_default.not-Gate
