use Rattle.{std.proofs.Common.{◌≡◌, [], ◌∷◌, sym, subst}, http_header.specs.FieldValue.FieldValue}
use Rattle.c_decisions.proofs.rules.read_line.Goals as goal

pub returns-in-Err-Invalid : goal.returns-in-Err-Invalid
returns-in-Err-Invalid g c value read =
    let copy : c.in_ok-clone.field-0 ≡ c.args.line.now = c.in_ok-clone.ensures.cases in
    let none = rw c.in-Err-Invalid.field-0-is at c.in-Err-Invalid.ensures.value in
    none value (subst (λ (line : FieldValue). g.H.Header.reads (line.bytes ∷ []) value) (sym copy) read)
