use Rattle.{std.proofs.Common.{inl, rules}, headers.specs.LineMap.lines_at}
use Rattle.decide_preconditions.specs.{Contents.{divisible_len, limits_of}, Plans.IsPlan, Responses.IsPlannedAtAll}
use Rattle.decide_preconditions.proofs.OnePlanLemmas.{sized-from_plan}
use Rattle.decide_preconditions.proofs.response.respond.Goals as goal

pub fields-requires : goal.fields-requires
fields-requires c = sized-from_plan c.args.sending.now.present c.args.request.now.method.now
    (lines_at c.args.request.now.fields.now) c.args.resource.now c.divisible_len-len.result c.limits-limits.result
    c.in-Some.plan (rw c.in-Some.is at c.in_ok-plan.ensures.plan) (search rules)

pub returns-in_err-fields-clause-memory : goal.returns-in_err-fields-clause-memory
returns-in_err-fields-clause-memory c =
    let planned = rw c.in-Some.is at c.in_ok-plan.ensures.plan in
    let content = c.args.sending.now.content.now in
    let own : IsPlan c.args.sending.now.present c.args.request.now.method.now (lines_at c.args.request.now.fields.now)
    c.args.resource.now (divisible_len content) (limits_of content) c.in-Some.plan = rw
    (c.divisible_len-len.ensures, c.limits-limits.ensures) at planned in
    let some : IsPlannedAtAll c.args.sending.now.present c.args.request.now.method.now
    (lines_at c.args.request.now.fields.now) c.args.resource.now content = inl (c.in-Some.plan, own) in
    search (rules, some)

pub returns-clause-answer : goal.returns-clause-answer
returns-clause-answer c =
    let planned = rw c.in-Some.is at c.in_ok-plan.ensures.plan in
    record {
      plan = rw (c.divisible_len-len.ensures, c.limits-limits.ensures) at planned;
      status = c.status.ensures;
      fields = rw c.is_known_by-is_known.ensures at c.in_ok-fields.ensures;
    }
