use Rattle.{std.proofs.Common.{rules, refl}, c_pass.specs.Caches.IsPlain, c_handles.specs.Passes.IsCacheHeld}
use Rattle.c_handles.{specs.declared.held.Held.TheVariants.Cache, proofs.OpenLemmas.{mapped, opened}}
use Rattle.c_handles.proofs.opening.open_cache.Goals as goal

pub returns : goal.returns
returns c =
    let plain = IsPlain c.args.options.now c.args.keys.now in
    opened (IsCacheHeld plain) c.map.result _ _ _
    (mapped plain (IsCacheHeld plain) Cache c.new_cache-made.result c.map.result (λ value held says. search rules)
    (λ value is. is) (λ failure is. is) c.new_cache-made.ensures c.map.ensures.cases) refl c.open.ensures
