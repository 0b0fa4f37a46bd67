use Rattle.std.proofs.Common.{◌≡◌, ◌≢◌, ℕ, ◌^◌, ◌<◌, List, ◌++◌, Result, Ok, Err, OnOk, ap, subst, ◌∙◌}
use Rattle.http1.specs.{declared.{error.WriteError.WriteError, server.Server.Server}, Head.pairs, Output.GivesOrRefuses}
use Rattle.{http1.specs.Server.response_refusal, http1_typed.specs.Parts.reason_of, http_server.specs.Response.fields}
use Rattle.http_server.proofs.AnswerLemmas.{not_refused}
use Rattle.server_connection.specs.{declared.plan.ResponsePlan.ResponsePlan, Encoding.{WritesHead, content_len}}
use Rattle.server_connection.specs.Encoding.{head_text, after_head, plan_fields, plan_size}
use Rattle.server_connection.proofs.encode.write_head.Goals as goal

module _ (plan : ResponsePlan) (old new : Server) (before after : List ℕ) (spare len : ℕ) (late : plan.status ≢ 101)
    (short : content_len plan < 2 ^ 64) where
  written : (result : Result (Unit {0}) WriteError)
      → GivesOrRefuses (response_refusal old plan.status (reason_of plan.status) (plan_size plan) (plan_fields plan))
      spare len result → OnOk result (after ≡ before ++ head_text old plan) → OnOk result (new ≡ after_head old plan)
      → OnOk result (WritesHead plan old before new after)
  written (Ok a) outcome text next =
      record { late = late; short = short; valid = not_refused _ spare len a outcome; text = text; next = next }
  written (Err e) outcome text next = tt

pub returns : goal.returns
returns c =
    let plan = c.args.plan.now in
    let headers : pairs c.deref-2.result.now ≡ plan_fields plan =
    ap pairs c.deref-2.ensures.value ∙ c.in_ok-headers.ensures ∙ ap fields c.deref.ensures.value in
    let wrote = c.write_response.ensures in
    let status = c.as_u16-status.ensures.value in
    written plan c.args.server.now c.write_response.new.self c.args.output.now.items c.write_response.new.output.items _
    _ (λ is. c.if-status-eq101.false (status ∙ is)) (subst (λ n. n < 2 ^ 64) plan.is_len c.plan_size-size.ensures.short)
    c.write_response.result
    (rw (headers, status, c.reason-reason.ensures, c.plan_size-size.ensures.value) at wrote.outcome)
    (rw (headers, status, c.reason-reason.ensures, c.plan_size-size.ensures.value) at wrote.ok)
    (rw (headers, status, c.plan_size-size.ensures.value) at wrote.next)
