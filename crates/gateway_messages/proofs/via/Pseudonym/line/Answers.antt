use Rattle.{std.proofs.Common.{Err, ap, subst, sym, rules, ◌≡◌}, http_header.specs.FieldValue.IsFieldValue}
use Rattle.gateway_messages.{specs.Via.via_line, proofs.ViaLemmas.IsFieldValue-via_line}
use Rattle.gateway_messages.proofs.via.Pseudonym.line.Goals as goal

pub unreachable-requires : goal.unreachable-requires
unreachable-requires c =
    let built : c.extend_from_slice-2.new.self.items ≡ via_line c.args.protocol c.args.self.now = search rules in
    c.in-Err-Invalid.ensures.invalid.0 (ap (λ e. Err e) c.in-Err-Invalid.field-0-is)
    (subst IsFieldValue (sym built) (IsFieldValue-via_line c.args.protocol c.args.self.now (search rules)))
