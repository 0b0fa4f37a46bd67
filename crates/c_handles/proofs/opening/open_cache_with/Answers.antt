use Rattle.{std.proofs.Common.rules, c_pass.specs.Caches.IsExtended, c_handles.specs.Passes.IsCacheHeld}
use Rattle.c_handles.{specs.declared.held.Held.TheVariants.Cache, proofs.OpenLemmas.{mapped, opened}}
use Rattle.c_handles.proofs.opening.open_cache_with.Goals as goal

pub returns : goal.returns
returns c = opened (IsCacheHeld (IsExtended c.args.options.now c.args.extensions.now c.args.keys.now)) c.map.result _ _
    _ (mapped (IsExtended c.args.options.now c.args.extensions.now c.args.keys.now)
    (IsCacheHeld (IsExtended c.args.options.now c.args.extensions.now c.args.keys.now)) Cache
    c.new_cache_with-made.result c.map.result (λ value held says. search rules) (λ value is. is) (λ failure is. is)
    c.new_cache_with-made.ensures c.map.ensures.cases) tt c.open.ensures
