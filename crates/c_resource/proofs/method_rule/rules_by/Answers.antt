use Rattle.std.proofs.{Common.{◌≡◌, Err, inl, refl, subst, sym}, lemmas.Result.err_from_is_err_and}
use Rattle.{headers.specs.Lines.lines_of, c_parts.specs.declared.status.Failure.TheVariants.Memory}
use Rattle.c_resource.{specs.MethodRules.{AreRulesRead, IsRuleAt, lines_by}, proofs.ListLemmas.{IsEachAt-push, line_at}}
use Rattle.c_resource.proofs.method_rule.rules_by.Goals as goal

pub returns-in_err-push : goal.returns-in_err-push
returns-in_err-push c =
    let line = c.index-methods-place.result in
    let at = line_at c.args.methods.now c.loop-place.place line c.loop-place-test.true c.index-methods-place.is in
    let answer = c.from_residual-in_err-push in
    let error = err_from_is_err_and answer.result answer.ensures.1 in
    let is : answer.result ≡ Err Memory = cc (error.1, error.2) in
    subst (AreRulesRead (lines_of c.args.methods.now) (lines_by c.args.lists.now)) (sym is)
    (c.loop-place.place, line.bytes, at, inl refl)

pub loop-place-preserved : goal.loop-place-preserved
loop-place-preserved c =
    let line = c.index-methods-place.result in
    let at = line_at c.args.methods.now c.loop-place.place line c.loop-place-test.true c.index-methods-place.is in
    rw c.in_ok-push.ensures.items
    (IsEachAt-push (IsRuleAt (lines_of c.args.methods.now) (lines_by c.args.lists.now)) c.loop-place.place
    c.loop-place.rules.items c.in_ok-rule_at.field-0 c.loop-place.invariant (line.bytes, at, c.in_ok-rule_at.ensures))
