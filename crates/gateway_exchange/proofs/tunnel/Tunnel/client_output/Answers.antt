use Rattle.gateway_exchange.proofs.TunnelLemmas.{conveyed}
use Rattle.gateway_exchange.proofs.tunnel.Tunnel.client_output.Goals as goal

pub returns-clause-theorem : goal.returns-clause-theorem
returns-clause-theorem c = λ first past reached. conveyed reached
