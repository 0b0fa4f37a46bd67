use Rattle.{std.proofs.Common.{◌∙◌, ap, refl}, cache_policy.{specs.Decisions.counted, proofs.DecisionLemmas.Answers-at}}
use Rattle.cache_fields.specs.declared.directives.Directives.{Directives}
use Rattle.cache_policy.proofs.policy.Policy.decide_by_directives.Goals as goal

pub returns : goal.returns
returns c =
    let counts = c.counted-asks.ensures
    ∙ ap (λ (d : Directives). counted c.args.self.now.immutable d c.args.tells.now c.args.freshness)
    c.read_directives.ensures in
    Answers-at _ c.counted-asks.result _ _ _ _ _ counts refl c.answer.ensures
