use Rattle.{std.proofs.Common.{refl, subst, sym}, server_connection.specs.Plan.IsBlank}
use Rattle.{server_connection.specs.declared.plan.ResponsePlan.ResponsePlan, c_connection.specs.Calls.host_plans}
use Rattle.c_connection.proofs.moving.respond_in.Goals as goal

pub returns : goal.returns
returns c = (
  λ before now planned. c.respond.ensures before now
      (subst (λ (plan : ResponsePlan). host_plans before c.args.held.now.connection.machine.request plan now)
      (sym c.replace-plan.ensures.value) planned),
  refl,
  subst IsBlank (sym c.replace-plan.ensures.after) c.new.ensures,
)
