use Rattle.std.{proofs.Common.{◌≡◌, ◌⊎◌, ap, inl, inr, ◌∙◌, arith}, specs.Prelude.string_bytes}
use Rattle.{decide_cors.specs.Browser.IsPreflightFor, decide_resource.specs.Reasons.{Before, stage}}
use Rattle.{decide_resource.specs.declared.reason.Reason.TheVariants.Preflight, headers.specs.LineMap.set_all}
use Rattle.server_service.{proofs.OneResponseLemmas.asked_once, specs.{Answer.status_for, Response.fields_of}}
use Rattle.server_laws.{specs.Answered.lines_in, proofs.Served.{decided, given, nothing, passes_alike, present}}
use Rattle.server_laws.proofs.Served.{read_as_set, resource}
use Rattle.server_laws.proofs.laws.preflight_passes_by_the_policy.Goals as goal

pub returns : goal.returns
returns c now left site look request response source asked policy rules sent x cors lawful made asks host own
    preflight =
    let same : x.asked ≡ asked = asked_once request x.asked asked x.asks asks in
    let asked_so : IsPreflightFor sent asked.method asked.fields = rw (asks.2.method, asks.2.fields) preflight in
    let d = decided (present x) (resource x) asked policy cors sent asked_so host own (string_bytes site.divider)
    x.found.files.items x.answer (rw (x.described.is, same) at x.decides) in
    let law = passed d.1
    (c.preflight_is_answered.ensures (present x) (resource x) asked x.answer rules policy nothing sent cors d.0 lawful
    made asked_so) in
    let code : status_for x.found.status x.answer.reason x.answer.status ≡ 204 = rw (d.1, law.0) in
    let by = passes_alike 204 (lines_in (fields_of response)) (set_all nothing (given x)) sent (read_as_set x cors) in (
      x.carries.status ∙ code,
      x.carries.pieces ∙ rw (code, d.2),
      rw (x.carries.status ∙ code) (λ passes. law.1.0 (by.0 passes), λ allows. by.1 (law.1.1 allows)),
    )
  where
    passed : {A : Type 0} → x.answer.reason ≡ Preflight → Before x.answer.reason Preflight ⊎ A → A
    passed reason (inl low) = absurd (omega (arith, low, ap stage reason))
    passed reason (inr answered) = answered
