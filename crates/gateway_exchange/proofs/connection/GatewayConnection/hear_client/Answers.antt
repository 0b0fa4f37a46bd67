use Rattle.{std.proofs.Common.{rules, inr, subst, sym}, server_stream.specs.declared.event.StreamEvent.StreamEvent}
use Rattle.gateway_exchange.specs.Steps.{PassesUp, RefusesContent, with_client}
use Rattle.gateway_exchange.proofs.connection.GatewayConnection.hear_client.Goals as goal

pub returns-in-Err : goal.returns-in-Err
returns-in-Err c =
    let old = with_client c.args.self.now c.next.new.self in
    let refused : RefusesContent old c.in-Content.piece c.in-Err.error c.pass_content.new.self = search rules in (
      c.next.result,
      c.next.new.self,
      c.next.ensures,
      subst (λ (e : StreamEvent). PassesUp c.args.rules.now old e c.fail.new.self) (sym c.in-Content.is)
          (inr (c.in-Err.error, c.pass_content.new.self, refused, c.fail.ensures)),
    )
