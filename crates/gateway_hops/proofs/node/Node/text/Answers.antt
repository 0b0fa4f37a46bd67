use Rattle.gateway_hops.{specs.Nodes.{name_text, port_text}, proofs.NodeLemmas.join_valid}
use Rattle.gateway_hops.proofs.node.Node.text.Goals as goal

pub returns-clause-valid : goal.returns-clause-valid
returns-clause-valid c = join_valid (name_text c.args.self.now.name) (port_text c.args.self.now.port)
    c.in_ok-push.ensures.valid c.in_ok-push_port.ensures.valid
