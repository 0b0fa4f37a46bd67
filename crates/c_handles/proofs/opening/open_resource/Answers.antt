use Rattle.{std.proofs.Common.{rules, inl, inr, refl}, c_resource.specs.Resources.IsResourceAnswer}
use Rattle.c_handles.specs.{Resources.IsResourceHeld, declared.held.Held.TheVariants.Resource}
use Rattle.c_handles.proofs.OpenLemmas.{mapped, opened}
use Rattle.c_handles.proofs.opening.open_resource.Goals as goal

pub returns : goal.returns
returns c = opened (IsResourceHeld c.args.parts.now c.args.representations.now c.args.rules.now) c.map.result _ _ _
    (mapped (IsResourceAnswer c.args.parts.now c.args.representations.now c.args.rules.now)
    (IsResourceHeld c.args.parts.now c.args.representations.now c.args.rules.now) Resource c.read_resource-made.result
    c.map.result (λ value held says. search rules) (λ value is. is) (λ failure is. inl is)
    c.read_resource-made.ensures c.map.ensures.cases) (inr refl) c.open.ensures
