use Rattle.std.proofs.Common.{◌≡◌, map, take}
use Rattle.{cache_pass.specs.Effects.{DoAll, kept_of, removals, settings_of}, url.specs.Parts.serialize}
use Rattle.cache_pass.proofs.cache.Cache.remove_all.Given as goal

abbrev pub invariant-loop-url : goal.invariant-loop-url
invariant-loop-url l = record {
  does : DoAll (settings_of l.fn.self) (removals (map serialize (take l.url-index l.urls))) (kept_of l.fn.self)
      (kept_of l.self);
  settings : settings_of l.self ≡ settings_of l.fn.self;
}
