use Rattle.std.{proofs.Common.{◌≡◌, true, Err, ap, subst, sym, rules}, specs.Prelude.string_bytes}
use Rattle.{http_header.specs.FieldValue.IsFieldValue, decide_preconditions.specs.Boundaries.is_boundary}
use Rattle.decide_preconditions.{specs.Boundaries.multipart_type, proofs.BoundaryLemmas.IsFieldValue-multipart_type}
use Rattle.decide_preconditions.proofs.boundary.Boundary.new.Goals as goal

pub unreachable-requires : goal.unreachable-requires
unreachable-requires c =
    let valid : is_boundary c.args.text.now ≡ true = search rules in
    let line : string_bytes c.in_ok-line.line ≡ multipart_type c.args.text.now = c.in_ok-line.ensures.ok in
    c.in-Err-Invalid.ensures.invalid.0 (ap (λ e. Err e) c.in-Err-Invalid.field-0-is)
    (subst IsFieldValue (sym line) (IsFieldValue-multipart_type c.args.text.now valid))
