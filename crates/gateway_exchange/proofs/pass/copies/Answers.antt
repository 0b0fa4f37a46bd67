use Rattle.std.{proofs.Common.{◌≤◌, ◌++◌, ◌∙◌, List, length, sym, arith}, proofs.lemmas.List.{append-nil, at_drop_all}}
use Rattle.gateway_messages.specs.{FieldLines.fields_of, declared.field_line.FieldLine.FieldLine}
use Rattle.gateway_exchange.proofs.pass.copies.Goals as goal

pub returns : goal.returns
returns c = let list = c.loop-field.list.items in
    let all = c.args.fields.now in
    let past : length c.args.fields.now ≤ c.loop-field.field-index = omega arith in
    sym (append-nil (fields_of list)) ∙ sym (at_drop_all (λ (rest : List FieldLine). fields_of list ++ fields_of rest)
    all c.loop-field.field-index past) ∙ c.loop-field.invariant
