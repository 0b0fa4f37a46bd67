use Rattle.{std.proofs.Common.{subst, sym}, gateway_exchange.{proofs.EventLemmas.closes, specs.Steps.Answers}}
use Rattle.gateway_exchange.specs.Steps.{EndsIdleAs, with_client}
use Rattle.gateway_exchange.specs.declared.connection.GatewayConnection.{GatewayConnection}
use Rattle.gateway_exchange.specs.declared.own.Own.TheVariants as Because
use Rattle.server_stream.specs.declared.event.StreamEvent.{StreamEvent}
use Rattle.gateway_exchange.proofs.connection.GatewayConnection.end_idle.Goals.{in-Rejected, in_default}
use Rattle.gateway_exchange.proofs.connection.GatewayConnection.end_idle.Goals as goal

pub returns : goal.returns
returns c =
    let old = with_client c.args.self.now c.next.new.self in
    let new = c.match-next.self in (
      c.finish_input.new.self,
      c.next.result,
      c.next.new.self,
      c.finish_input.ensures,
      c.next.ensures,
      elim c.match-next.branch [
        | in-Rejected w ↦ subst (λ (e : StreamEvent). EndsIdleAs old e new) (sym w.in-Rejected.is)
            (subst (λ (m : GatewayConnection). Answers old Because.LateRequest m) (sym w.self-is) w.answer_own.ensures)
        | in_default w ↦ closes old c.next.result new w.in_default.not-Rejected w.self-is
      ],
    )
