use Rattle.std.proofs.Common.{◌≡◌, ◌⊎◌, ℕ, Bool, true, false, List, Err, inl, inr, refl, subst, sym}
use Rattle.{std.proofs.lemmas.Result.err_from_is_err_and, c_decisions.specs.Contents.IsBoundaryOf}
use Rattle.c_parts.specs.declared.status.Failure.{Failure, TheVariants.Memory}
use Rattle.c_resource.specs.{Implemented.{AreImplemented, FailsAtMethods}, Resources.{IsResourceAnswer, boundary_text}}
use Rattle.c_resource.proofs.resource.read_resource.Goals as goal

-- methods that are said can't be read, or there is no memory
why_unknown : (is_said : Bool) (text : List ℕ) (failure : Failure) → AreImplemented is_said text (Err failure)
    → ((is_said ≡ true) × FailsAtMethods text failure) ⊎ (failure ≡ Memory)
why_unknown true text failure fails = inl (refl, fails)
why_unknown false text failure memory = inr memory

pub returns-in_err-implemented : goal.returns-in_err-implemented
returns-in_err-implemented c =
    let answer = c.from_residual-in_err-implemented in
    let failure = c.in_err-implemented.field-0.0 in
    let error = err_from_is_err_and answer.result answer.ensures.1 in
    let is : answer.result ≡ Err failure = cc (error.1, error.2) in
    subst (IsResourceAnswer c.args.parts.now c.args.numbers.now c.args.rules.now) (sym is)
    (elim (why_unknown c.args.parts.now.has_implemented c.args.parts.now.implemented.now failure
    c.in_err-implemented.ensures) [
      | inl said ↦ inr (inr (inl said))
      | inr memory ↦
          inr (inl (subst (λ (why : Failure). IsBoundaryOf (boundary_text c.args.parts.now.boundary.now) (Err why))
          (sym memory) c.in_ok-boundary.ensures.0))
    ])

pub returns-in_err-methods : goal.returns-in_err-methods
returns-in_err-methods c =
    let answer = c.from_residual-in_err-methods in
    let failure = c.in_err-methods.field-0.0 in
    let error = err_from_is_err_and answer.result answer.ensures.1 in
    let is : answer.result ≡ Err failure = cc (error.1, error.2) in
    subst (IsResourceAnswer c.args.parts.now c.args.numbers.now c.args.rules.now) (sym is)
    (inr (inr (inr (inr (inl c.in_err-methods.ensures)))))

pub returns-in_err-representations : goal.returns-in_err-representations
returns-in_err-representations c =
    let answer = c.from_residual-in_err-representations in
    let failure = c.in_err-representations.field-0.0 in
    let error = err_from_is_err_and answer.result answer.ensures.1 in
    let is : answer.result ≡ Err failure = cc (error.1, error.2) in
    subst (IsResourceAnswer c.args.parts.now c.args.numbers.now c.args.rules.now) (sym is)
    (inr (inr (inr (inr (inr (inl c.in_err-representations.ensures))))))

pub returns-in_err-cors : goal.returns-in_err-cors
returns-in_err-cors c =
    let answer = c.from_residual-in_err-cors in
    let failure = c.in_err-cors.field-0.0 in
    let error = err_from_is_err_and answer.result answer.ensures.1 in
    let is : answer.result ≡ Err failure = cc (error.1, error.2) in
    subst (IsResourceAnswer c.args.parts.now c.args.numbers.now c.args.rules.now) (sym is)
    (inr (inr (inr (inr (inr (inr c.in_err-cors.ensures))))))
