use Rattle.{std.proofs.Common.{rules, ◌≡◌, inl, inr, List, Some, subst}, gateway_messages.specs.FieldLines.fields_of}
use Rattle.{gateway_messages.specs.declared.field_line.FieldLine.FieldLine, gateway_exchange.specs.Steps.SwitchesTo}
use Rattle.gateway_exchange.proofs.connection.GatewayConnection.hear_switch.Goals as goal

pub returns-in-Ok : goal.returns-in-Ok
returns-in-Ok c = let old = c.args.self.now in
    let asked : c.args.self.now.asked ≡ Some c.in-Some.asked = search rules in
    let switches = subst (λ (items : List FieldLine). SwitchesTo old c.args.response.now
    (fields_of items) c.switch.new.self) c.deref.ensures.value c.switch.ensures in
    inl (c.in-Some.asked, asked, inl (fields_of c.in-Ok.fields.items, c.in-Ok.ensures.ok, switches))

pub returns-in-Err : goal.returns-in-Err
returns-in-Err c = let asked : c.args.self.now.asked ≡ Some c.in-Some.asked = search rules in
    inl (c.in-Some.asked, asked, inr (c.in-Err.own, c.in-Err.ensures.err, c.fail.ensures))
