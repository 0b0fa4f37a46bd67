use Rattle.{std.proofs.Common.{Err, ap, subst, sym}, http_header.specs.FieldValue.IsFieldValue}
use Rattle.gateway_hops.proofs.element.element.Goals as goal

pub unreachable-requires : goal.unreachable-requires
unreachable-requires c = c.in-Err-Invalid.ensures.invalid.0 (ap (λ e. Err e) c.in-Err-Invalid.field-0-is)
    (subst IsFieldValue (sym c.in_ok-element_text.ensures.value) c.in_ok-element_text.ensures.valid)
