use Rattle.std.{proofs.Common.{◌≡◌, Option, Some, None, refl, subst, sym, ◌∙◌}, specs.Prelude.find}
use Rattle.decide_resource.specs.{Applies.{applies, applies_by}, Reasons.in_order, Requests.request_of}
use Rattle.decide_resource.{specs.declared.resource.MethodRule.MethodRule, proofs.ReasonLemmas.first_in_order}
use Rattle.decide_resource.proofs.order.reason_for.Goals as goal

pub returns-in-Some : goal.returns-in-Some
returns-in-Some c =
    let resource = c.args.resource.now in
    let request = request_of c.args.request.now in
    first_in_order (applies c.args.present resource request) refl (Some c.in-Some.reason) (subst
    (λ (rule : Option MethodRule).
    Some c.in-Some.reason ≡ find (applies_by c.args.present resource request rule) in_order)
    c.rule_of-rule.ensures (sym c.in-Some.is ∙ c.first_of.ensures))

pub returns-in-None : goal.returns-in-None
returns-in-None c =
    let resource = c.args.resource.now in
    let request = request_of c.args.request.now in
    first_in_order (applies c.args.present resource request) refl None
    (subst (λ (rule : Option MethodRule). None ≡ find (applies_by c.args.present resource request rule) in_order)
    c.rule_of-rule.ensures (sym c.in-None.is ∙ c.first_of.ensures))
