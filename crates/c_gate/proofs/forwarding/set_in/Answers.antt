use Rattle.{std.proofs.Common.{Option, codes, refl, subst}, http_header.specs.{FieldValue.FieldValue, HeaderMap.get}}
use Rattle.gateway_exchange.specs.Steps.{Conditions}
use Rattle.c_gate.proofs.forwarding.set_in.Goals as goal

pub returns : goal.returns
returns c =
    let fields = c.in_ok-fields.fields in
    let old = c.args.gate.now.connection in
    let new = c.set_conditions.new.self in (
      fields,
      c.in_ok-fields.ensures,
      (
        subst (λ (since : Option FieldValue). Conditions (get fields (codes "if-none-match")) since old new)
            c.in_ok-since.ensures (subst (λ (etags : Option FieldValue). Conditions etags c.in_ok-since.since old new)
            c.in_ok-etags.ensures c.in_ok-set_conditions.ensures.ok),
        refl,
      ),
    )
