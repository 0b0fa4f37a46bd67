use Rattle.{std.proofs.Common.{rules, ◌≢◌, inl, inr, refl, subst}, headers.specs.LineMap.lines_at}
use Rattle.{decide_handshake.specs.Client.IsOpened, gateway_messages.specs.Responses.IsResponseOutcome}
use Rattle.gateway_exchange.specs.Passing.{answered}
use Rattle.gateway_exchange.proofs.pass.switched_fields.Goals as goal

pub returns-in-Ok-Forward-clause-ok : goal.returns-in-Ok-Forward-clause-ok
returns-in-Ok-Forward-clause-ok c =
    let a = c.args in
    let other : a.response.now.status ≢ 101 = search rules in
    inl (
      other,
      c.in-Ok-Forward.sent,
      subst (IsResponseOutcome a.gateway.now a.now (answered a.asked.now a.response.now.status a.response.now))
          c.in-Ok-Forward.field-0-is c.in-Ok-Forward.ensures,
      refl,
    )

pub returns-in-Ok-clause-ok : goal.returns-in-Ok-clause-ok
returns-in-Ok-clause-ok c =
    let a = c.args in
    let opened : IsOpened (lines_at a.asked.now.head.fields) a.response.now.status (lines_at a.response.now.fields) =
    search rules in
    inr (
      opened,
      c.in-Ok-Forward-judge.sent,
      subst (IsResponseOutcome a.gateway.now a.now (answered a.asked.now 204 a.response.now))
          c.in-Ok-Forward-judge.field-0-is c.in-Ok-Forward-judge.ensures,
      c.in-Ok.ensures,
    )
