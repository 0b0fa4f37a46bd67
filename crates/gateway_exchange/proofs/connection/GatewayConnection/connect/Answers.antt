use Rattle.std.proofs.Common.{inl, inr, refl}
use Rattle.gateway_exchange.proofs.connection.GatewayConnection.connect.Goals as goal

pub returns-in-Ok : goal.returns-in-Ok
returns-in-Ok c = (c.next-end.result, c.next-end.new.self, c.next-end.ensures, inl (c.in-Ok.ensures, refl))

pub returns : goal.returns
returns c = (
  c.next-end.result,
  c.next-end.new.self,
  c.next-end.ensures,
  inr (c.in-Err.error, c.switch.new.self, c.in-Err.ensures, c.answer_own.ensures),
)
