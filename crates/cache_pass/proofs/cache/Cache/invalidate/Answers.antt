use Rattle.std.proofs.Common.{[], ◌∷◌, inl, inr, List, map, refl, subst}
use Rattle.{cache_store.specs.History.Call.Removed, url.specs.Parts.{Parts, serialize}}
use Rattle.cache_pass.{proofs.CallLemmas.removes-with, specs.Effects.{DoAll, kept_of, removals, settings_of}}
use Rattle.cache_pass.proofs.cache.Cache.invalidate.Goals as goal

pub returns-in-Ok-clause-does : goal.returns-in-Ok-clause-does
returns-in-Ok-clause-does c = (
  removals (c.args.key.now ∷ map serialize c.in-Ok.urls.items),
  inl (c.if-not-invalidates.ensures, (c.in-Ok.urls.items, inl c.in-Ok.ensures.targets, refl)),
  removes-with (settings_of c.args.self.now) (settings_of c.remove.new.self) c.args.key.now
      (map serialize c.in-Ok.urls.items) (kept_of c.args.self.now) (kept_of c.remove.new.self)
      (kept_of c.remove_all.new.self) c.remove.ensures.settings c.remove.ensures.does
      (subst (λ (urls : List Parts). DoAll (settings_of c.remove.new.self) (removals (map serialize urls))
      (kept_of c.remove.new.self) (kept_of c.remove_all.new.self)) c.deref.ensures.value c.remove_all.ensures.does),
)

pub returns-in_default-clause-does : goal.returns-in_default-clause-does
returns-in_default-clause-does c = (
  Removed c.args.key.now ∷ [],
  inl (c.if-not-invalidates.ensures, ([], inr refl, refl)),
  (kept_of c.args.self.now, refl, c.remove.ensures.does),
)
