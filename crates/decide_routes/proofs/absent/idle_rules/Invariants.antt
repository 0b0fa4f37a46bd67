use Rattle.{std.proofs.Common.{◌≡◌, ◌∷◌, codes, false, map, take}, decide_routes.specs.Routes.{idle_rule, told_of}}
use Rattle.decide_routes.proofs.absent.idle_rules.Given as goal

abbrev pub invariant-loop-method : goal.invariant-loop-method
invariant-loop-method l =
    map told_of l.rules.items ≡ (codes "GET", false) ∷ map idle_rule (take l.method-index l.methods)
