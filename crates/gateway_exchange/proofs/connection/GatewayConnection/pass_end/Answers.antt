use Rattle.std.proofs.Common.{rules, ◌≡◌, inl, inr, refl, Some}
use Rattle.gateway_exchange.proofs.connection.GatewayConnection.pass_end.Goals as goal

pub returns-in-Ok : goal.returns-in-Ok
returns-in-Ok c = let heard : c.args.self.now.heard ≡ Some c.in-Some.heard = search rules in
    inl (c.in-Some.heard, heard, inl (c.in-Ok.ensures, refl))

pub returns-in-Err : goal.returns-in-Err
returns-in-Err c = let heard : c.args.self.now.heard ≡ Some c.in-Some.heard = search rules in
    inl (c.in-Some.heard, heard, inr (c.in-Err.field-0, c.in-Err.ensures, refl))
