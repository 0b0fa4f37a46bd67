use Rattle.std.proofs.{Common.{◌≡◌, Err, inr, refl, subst, sym}, lemmas.Result.err_from_is_err_and}
use Rattle.{c_parts.specs.declared.status.Failure.TheVariants.Memory, c_decisions.specs.Handshakes.AnswersHandshake}
use Rattle.c_decisions.proofs.handshake.answer_handshake.Goals as goal

pub returns-in_err-show : goal.returns-in_err-show
returns-in_err-show c =
    let method = c.in_ok-method.ensures in
    let answer = c.from_residual-in_err-show in
    let error = err_from_is_err_and answer.result answer.ensures.1 in
    let is : answer.result ≡ Err Memory = cc (error.1, error.2) in
    subst (AnswersHandshake c.args.request.now c.args.version c.args.rules.now) (sym is) (inr (inr (inr (inr (inr (
      refl,
      record {
        is_method = method.0;
        version = c.in_ok-version.version;
        is_version = c.in_ok-version.ensures;
        own = c.in_ok-own.own.items;
        are_own = c.in_ok-own.ensures;
        allowed = c.in_ok-origins.origins;
        are_allowed = c.in_ok-origins.ensures;
        fields = c.in_ok-fields.fields;
        holds = c.in_ok-fields.ensures;
        has_fields = inr (
          c.in_ok-answer.answer,
          rw (method.1, c.as_slice.ensures.value) at c.in_ok-answer.ensures.answer,
          c.in_err-show.ensures.memory refl,
        );
      },
    ))))))
