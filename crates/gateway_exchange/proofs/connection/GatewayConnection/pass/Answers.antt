use Rattle.{std.proofs.Common.{rules, ◌≡◌, inl, subst, Option, Some}, gateway_exchange.specs.Steps.ShowsHead}
use Rattle.gateway_exchange.specs.declared.{pass.Heard.Heard}
use Rattle.gateway_exchange.specs.declared.connection.Stage.TheVariants as At
use Rattle.gateway_exchange.proofs.connection.GatewayConnection.pass.Goals as goal

pub returns-in-Some : goal.returns-in-Some
returns-in-Some c =
    let old = c.args.self.now in
    let stage : c.args.self.now.stage ≡ At.Judging = search rules in
    let heard : c.args.self.now.heard ≡ Some c.in-Some.heard = search rules in
    inl (
      stage,
      c.in-Some.heard,
      heard,
      subst (λ (left : Option Heard). ShowsHead (record old { heard = left }) c.in-Some.heard c.show_head.new.self)
          c.take.ensures.after c.show_head.ensures,
    )
