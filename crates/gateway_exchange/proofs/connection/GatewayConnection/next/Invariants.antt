use Rattle.gateway_exchange.specs.Steps.{Runs}
use Rattle.gateway_exchange.proofs.connection.GatewayConnection.next.Given as goal

abbrev pub invariant-loop-turn : goal.invariant-loop-turn
invariant-loop-turn l = Runs l.fn.rules l.fn.now l.fn.self l.self
