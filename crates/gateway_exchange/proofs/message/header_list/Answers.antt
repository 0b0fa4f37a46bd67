use Rattle.std.proofs.{Common.{[], ◌∷◌, ◌++◌, take, sym, ap, ◌∙◌}, lemmas.List.{map_push, map_more}}
use Rattle.{http1.specs.Head.{header_parts, pairs}, gateway_messages.specs.FieldLines.fields_of}
use Rattle.gateway_exchange.proofs.message.header_list.Goals as goal

pub loop-field-preserved : goal.loop-field-preserved
loop-field-preserved c =
    let item = c.field-item.result in
    ap pairs c.in_ok-push.ensures.items ∙ map_push header_parts _ _
    ∙ (λ i. c.loop-field.invariant i ++ (c.as_bytes.ensures.value i, c.as_bytes-in-loop-field.ensures.value i) ∷ [])
    ∙ (λ i. fields_of (take c.loop-field.field-index c.args.fields.now) ++
    ((c.field-item.is i).name, (c.field-item.is i).value.bytes) ∷ [])
    ∙ sym (map_more (λ field. (field.name, field.value.bytes)) c.args.fields.now _ item c.loop-field-test.true)
