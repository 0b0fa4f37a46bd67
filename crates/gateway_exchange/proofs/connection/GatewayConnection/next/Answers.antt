use Rattle.gateway_exchange.specs.Steps.{Rests, Went}
use Rattle.gateway_exchange.proofs.connection.GatewayConnection.next.Goals as goal

pub loop-turn-init : goal.loop-turn-init
loop-turn-init c = Rests

pub loop-turn-preserved : goal.loop-turn-preserved
loop-turn-preserved c = Went c.loop-turn.self c.step.new.self c.loop-turn.invariant c.in_default.ensures
