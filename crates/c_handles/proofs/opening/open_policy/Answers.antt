use Rattle.{std.proofs.Common.{rules, inl, inr, refl}, c_decisions.specs.Rules.IsPolicyAnswer}
use Rattle.c_handles.{specs.{Policies.IsPolicyHeld, declared.held.Held.TheVariants.Policy}, proofs.OpenLemmas.mapped}
use Rattle.c_handles.proofs.OpenLemmas.{opened}
use Rattle.c_handles.proofs.opening.open_policy.Goals as goal

pub returns : goal.returns
returns c = opened (IsPolicyHeld c.args.rules.now) c.map.result _ _ _
    (mapped (IsPolicyAnswer c.args.rules.now) (IsPolicyHeld c.args.rules.now) Policy c.read_policy.result c.map.result
    (λ value held says. search rules) (λ value is. is) (λ failure is. inl is) c.read_policy.ensures c.map.ensures.cases)
    (inr refl) c.open.ensures
