-- What follows of an event.
use Rattle.{std.proofs.Common.{◌≡◌, refl}, gateway_exchange.specs.Steps.EndsIdleAs}
use Rattle.gateway_exchange.specs.declared.connection.GatewayConnection.{GatewayConnection}
use Rattle.gateway_exchange.specs.declared.connection.Stage.TheVariants as At
use Rattle.server_stream.specs.declared.{event.StreamEvent.StreamEvent, rejection.StreamRejection.StreamRejection}
use Rattle.server_stream.specs.declared.event.StreamEvent.TheVariants as Is

-- what isn't rejected has no answer
pub closes : (old : GatewayConnection) (event : StreamEvent) (new : GatewayConnection) → ((why : StreamRejection)
    → event ≡ Is.Rejected why → ⊥) → new ≡ record old { stage = At.Closed } → EndsIdleAs old event new
closes old (Is.Rejected why) new other is = absurd (other why refl)
closes old event new other is = is
