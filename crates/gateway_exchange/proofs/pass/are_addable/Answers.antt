use Rattle.std.{proofs.Common.{◌∙◌, rules, sym, tests}, proofs.lemmas.Iterator.YieldsList-from_slice}
use Rattle.std.proofs.lemmas.{Iterator.Search.all_from_yields_List, List.Folds.list_all-map}
use Rattle.{http1.specs.Fields.Header, gateway_messages.specs.declared.field_line.FieldLine.FieldLine}
use Rattle.gateway_exchange.specs.Passing.{is_addable}
use Rattle.gateway_exchange.proofs.pass.are_addable.Goals as goal

pub returns : goal.returns
returns c = all_from_yields_List (λ (it : FieldLine). is_addable it.name) _ _ c.all.result c.all.ensures.ran
    (YieldsList-from_slice c.args.fields.now cc) (λ x b q k. search (rules, tests))
    ∙ sym (list_all-map (λ (line : Header). is_addable line.0) (λ (it : FieldLine). (it.name, it.value.bytes))
    c.args.fields.now)
