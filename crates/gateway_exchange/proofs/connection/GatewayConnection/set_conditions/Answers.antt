use Rattle.std.proofs.Common.{rules, ◌≡◌, inr, refl, Some}
use Rattle.gateway_exchange.proofs.connection.GatewayConnection.set_conditions.Goals as goal

pub returns-clause-ok : goal.returns-clause-ok
returns-clause-ok c = let asked : c.args.self.now.asked ≡ Some c.in-Some.asked = search rules in
    inr (c.in-Some.asked, asked, rw (← c.deref.ensures.value) c.in_ok-fields.ensures, refl)
