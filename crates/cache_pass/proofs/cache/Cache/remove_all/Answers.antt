use Rattle.cache_pass.specs.Effects.{DoAll, Does, kept_of, removals, Settings, settings_of}
use Rattle.{cache_pass.proofs.CallLemmas.removals-append, std.proofs.lemmas.List.{map-append, take_all, take_more}}
use Rattle.std.proofs.Common.{[], ◌++◌, ◌+◌, ◌∙◌, ◌∷◌, ◌≡◌, ap, List, map, subst, sym, take, ℕ}
use Rattle.{cache_store.specs.History.{Call.Removed, History}, url.specs.Parts.{Parts, serialize}}
use Rattle.cache_pass.proofs.cache.Cache.remove_all.Goals as goal

pub loop-url-preserved : goal.loop-url-preserved
loop-url-preserved c =
    let urls : List Parts = c.args.urls.now in
    let i : ℕ = c.loop-url.url-index in
    let url : Parts = c.url-item.result in
    let taken : take (i + 1) urls ≡ take i urls ++ url ∷ [] =
    take_more urls i url c.loop-url-test.true ∙ ap (λ (u : Parts). take i urls ++ u ∷ []) (sym c.url-item.is) in
    let calls : removals (map serialize (take (i + 1) urls))
    ≡ Removed (serialize url) ∷ removals (map serialize (take i urls)) =
    ap (λ (l : List Parts). removals (map serialize l)) taken
    ∙ ap removals (map-append serialize (take i urls) (url ∷ []))
    ∙ removals-append (map serialize (take i urls)) (serialize url) in
    record {
      does = subst (λ (h : History). DoAll (settings_of c.args.self.now) h (kept_of c.args.self.now)
          (kept_of c.remove.new.self)) (sym calls) (
            kept_of c.loop-url.self,
            c.loop-url.invariant.does,
            subst (λ (s : Settings). Does s (Removed (serialize url)) (kept_of c.loop-url.self)
                (kept_of c.remove.new.self)) c.loop-url.invariant.settings
                (subst (λ (t : List ℕ). Does (settings_of c.loop-url.self) (Removed t) (kept_of c.loop-url.self)
                (kept_of c.remove.new.self)) c.as_str.ensures.value c.remove.ensures.does),
          );
      settings = c.remove.ensures.settings ∙ c.loop-url.invariant.settings;
    }

pub returns-clause-does : goal.returns-clause-does
returns-clause-does c = subst (λ (l : List Parts). DoAll (settings_of c.args.self.now) (removals (map serialize l))
    (kept_of c.args.self.now) (kept_of c.loop-url.self))
    (take_all c.loop-url.url-index c.args.urls.now c.loop-url-test.false) c.loop-url.invariant.does
