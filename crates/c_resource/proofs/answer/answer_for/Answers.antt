use Rattle.std.proofs.{Common.{◌≡◌, Err, inl, inr, subst, sym}, lemmas.Result.err_from_is_err_and}
use Rattle.{c_decisions.specs.Contents.IsBoundaryOf, c_parts.specs.declared.status.Failure.Failure}
use Rattle.c_resource.specs.{Answers.Answers, Resources.boundary_text}
use Rattle.c_resource.proofs.answer.answer_for.Goals as goal

pub returns-in_err-known : goal.returns-in_err-known
returns-in_err-known c =
    let answer = c.from_residual in
    let failure = c.in_err-known.field-0.0 in
    let error = err_from_is_err_and answer.result answer.ensures.1 in
    let is : answer.result ≡ Err failure = cc (error.1, error.2) in
    let given = c.args.resource.now in
    subst (Answers given.parts.now given.representations.now given.rules.now c.args.request.now c.args.denial.now
    c.args.section.now) (sym is) (inl c.in_err-known.ensures)

pub returns-in_err-answered : goal.returns-in_err-answered
returns-in_err-answered c =
    let answer = c.from_residual-in_err-answered in
    let failure = c.in_err-answered.field-0.0 in
    let error = err_from_is_err_and answer.result answer.ensures.1 in
    let is : answer.result ≡ Err failure = cc (error.1, error.2) in
    let given = c.args.resource.now in
    subst (Answers given.parts.now given.representations.now given.rules.now c.args.request.now c.args.denial.now
    c.args.section.now) (sym is) (elim c.in_err-answered.ensures [
      | inl request ↦ inr (inl request)
      | inr memory ↦
          inl (inr (inl (subst
          (λ (reason : Failure). IsBoundaryOf (boundary_text given.parts.now.boundary.now) (Err reason))
          (sym memory.0) c.in_ok-known.ensures.boundary.0)))
    ])
