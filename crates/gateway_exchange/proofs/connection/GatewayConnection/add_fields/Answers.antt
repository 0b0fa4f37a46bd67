use Rattle.std.proofs.Common.{rules, ◌≡◌, refl, true, Some}
use Rattle.{gateway_messages.specs.FieldLines.fields_of, gateway_exchange.specs.Passing.are_addable}
use Rattle.gateway_exchange.specs.declared.connection.Stage.TheVariants as At
use Rattle.gateway_exchange.proofs.connection.GatewayConnection.add_fields.Goals as goal

pub returns : goal.returns
returns c =
    let stage : c.args.self.now.stage ≡ At.Judging = search rules in
    let heard : c.args.self.now.heard ≡ Some c.in-Some.heard = search rules in
    let addable : are_addable (fields_of c.args.fields.items) ≡ true = search rules in
    (c.in-Some.heard, (stage, heard, addable, c.args.fields, refl, search rules))
