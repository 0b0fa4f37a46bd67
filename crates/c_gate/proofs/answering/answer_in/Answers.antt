use Rattle.{std.proofs.Common.{ℕ, refl, subst}, gateway_exchange.specs.Steps.{Answers, Settles}}
use Rattle.gateway_exchange.specs.declared.{connection.GatewayConnection.GatewayConnection, own.Own.TheVariants.Chosen}
use Rattle.c_gate.proofs.answering.answer_in.Goals as goal

pub returns : goal.returns
returns c = (
  c.in_ok-status.ensures.0,
  (
    (
      c.answer.ensures.other,
      λ asking. subst (λ (status : ℕ). (between : GatewayConnection) × Settles c.args.gate.now.connection between
          × Answers between (Chosen status) c.answer.new.self) c.in_ok-status.ensures.1 (c.answer.ensures.asked asking),
    ),
    refl,
  ),
)
