-- What calls make of a cache, one after the other.
use Rattle.cache_pass.specs.Worlds.{Acts, asked_in, asks_of, calls_of, Deed, IsStep, Log, Reaches, World}
use Rattle.cache_pass.specs.{Steps.{HasEnded, unkept}, Worlds.{Deed.{Apart, Begins, Comes, Ends, Fails}, Event.Calls}}
use Rattle.cache_pass.specs.Effects.{DoAll, Does, Kept, kept_of, removals, Settings, settings_of}
use Rattle.cache_pass.specs.declared.{cache.Cache.Cache, pass.{Pass.Pass, Phase.{Phase, TheVariants.Asking}}}
use Rattle.cache_rules.specs.declared.storing.Reception.{Reception, TheVariants.{Complete, Incomplete}}
use Rattle.cache_store.specs.{History.{Call.Removed, History, Run}, Kept.contents_of}
use Rattle.std.{proofs.Common.{◌++◌, ap, None}, specs.declared.alloc.AllocError.AllocError}
use Rattle.std.proofs.Common.{[], ◌∙◌, ◌∷◌, ◌≡◌, inl, inr, List, map, Ok, Option, refl, Result, Some, subst, sym, ℕ}

pub none-some : {X : Type 0} {x : X} → None ≡ Some x → ⊥
none-some {X = X} {x = x} h = cc

-- no number is none, and none is another
pub some-unkept : (number : ℕ) (reception : Reception) → Ok (Some number) ≡ unkept reception → ⊥
some-unkept number Complete same = cc
some-unkept number Incomplete same = cc

module _ (settings : Settings) where
  pub do-both : (later earlier : History) (old between new : Kept) → DoAll settings earlier old between
      → DoAll settings later between new → DoAll settings (later ++ earlier) old new
  do-both [] earlier old between new first same = rw same first
  do-both (call ∷ later) earlier old between new first (before, done, does) =
      (before, do-both later earlier old between before first done, does)

  pub run-further : (calls earlier : History) (old new : Kept)
      → Run settings.policy settings.limits earlier old.contents → DoAll settings calls old new
      → Run settings.policy settings.limits (calls ++ earlier) new.contents
  run-further [] earlier old new ran same = rw same ran
  run-further (call ∷ calls) earlier old new ran (before, done, does) =
      (before.contents, run-further calls earlier old before ran done, does.step)

-- a target is removed, and then these
pub removes-with : (settings later : Settings) (key : List ℕ) (targets : List (List ℕ)) (old between new : Kept)
    → later ≡ settings → Does settings (Removed key) old between → DoAll later (removals targets) between new
    → DoAll settings (removals (key ∷ targets)) old new
removes-with settings later key targets old between new same first rest =
    do-both settings (removals targets) (Removed key ∷ []) old between new (old, refl, first) (rw same at rest)

-- one more target is removed
pub removals-append : (targets : List (List ℕ)) (last : List ℕ)
    → removals (targets ++ last ∷ []) ≡ Removed last ∷ removals targets
removals-append [] last = refl
removals-append (target ∷ targets) last = ap (λ (l : History). l ++ Removed target ∷ []) (removals-append targets last)

pub calls-made : (pass : ℕ) (calls : History) (log : Log)
    → calls_of (map (Calls pass) calls ++ log) ≡ calls ++ calls_of log
calls-made pass [] log = refl
calls-made pass (call ∷ calls) log = ap (λ (l : History). call ∷ l) (calls-made pass calls log)

pub calls-asked : (pass : ℕ) (phase : Phase) (log : Log) → calls_of (asks_of pass phase ++ log) ≡ calls_of log
calls-asked pass (Asking asked) log = refl
calls-asked pass phase log = refl

calls-asked-in : (deed : Deed) (pass : ℕ) (phase : Phase) (log : Log)
    → calls_of (asked_in deed pass phase ++ log) ≡ calls_of log
calls-asked-in (Apart call) pass phase log = refl
calls-asked-in deed pass phase log = calls-asked pass phase log

-- ---- a step

module _ (old : Pass) (before : Cache) (new : Pass) (after : Cache) (calls : History) where
  pub step-settings : (deed : Deed) → IsStep deed old before new after calls → settings_of after ≡ settings_of before
  step-settings (Begins now first) (h, same) = h.settings
  step-settings (Comes status response now next) (h, same) = h.settings
  step-settings (Fails now found) (h, same) = h.settings
  step-settings (Ends content reception now number) (h, same) = h.settings
  step-settings (Apart call) (apart, does, set, kept, same) = set

  abbrev Done : History → Type 0
  Done made = DoAll (settings_of before) made (kept_of before) (kept_of after)

  by-ended : (content : List ℕ) (reception : _) (now : ℕ) (number : Result (Option ℕ) AllocError)
      → (h : HasEnded old before content reception now new after number) → Done h.calls
  by-ended content reception now number h = elim h.closed [
    | inl (complete, (came, received, inl (past, none, same, unnamed))) ↦ subst Done (sym none) same
    | inl (complete, (came, received, inr (timely, storing))) ↦
        subst Done (sym storing.all) (storing.described, storing.describes, storing.stores)
    | inr (same, none, unnamed) ↦ subst Done (sym none) same
  ]

  pub step-does : (deed : Deed) → IsStep deed old before new after calls → Done calls
  step-does (Comes status response now next) (h, same) = subst Done (sym same) h.does
  step-does (Ends content reception now number) (h, same) =
      subst Done (sym same) (by-ended content reception now number h)
  step-does (Apart call) (apart, does, set, kept, same) = subst Done (sym same) (kept_of before, refl, does)
  step-does (Begins now first) (h, same) = subst Done (sym same) (kept_of before, refl, h.does)
  step-does (Fails now found) (h, same) = subst Done (sym same) (kept_of before, refl, h.does)

-- ---- a run

pub acts-log : (pass : ℕ) (deed : Deed) (old new : World) (acts : Acts pass deed old new)
    → calls_of new.log ≡ acts.calls ++ calls_of old.log
acts-log pass deed old new acts =
    ap calls_of acts.log ∙ calls-asked-in deed pass (new.passes pass).phase (map (Calls pass) acts.calls ++ old.log)
    ∙ calls-made pass acts.calls old.log

-- what a world has stored comes of the calls that its log has
abbrev pub HasRun : Settings → World → Type 0
HasRun settings world = Run settings.policy settings.limits (calls_of world.log) (contents_of world.cache.store)

pub acts-run : (settings : Settings) (pass : ℕ) (deed : Deed) (old new : World) → settings_of old.cache ≡ settings
    → HasRun settings old → Acts pass deed old new → HasRun settings new
acts-run settings pass deed old new are ran acts =
    let does = subst (λ (s : Settings). DoAll s acts.calls (kept_of old.cache) (kept_of new.cache)) are
    (step-does (old.passes pass) old.cache (new.passes pass) new.cache acts.calls deed acts.step) in
    subst (λ (h : History). Run settings.policy settings.limits h (contents_of new.cache.store))
    (sym (acts-log pass deed old new acts))
    (run-further settings acts.calls (calls_of old.log) (kept_of old.cache) (kept_of new.cache) ran does)

pub reached : (settings : Settings) (deeds : List (ℕ × Deed)) (world : World) → Reaches settings deeds world
    → (settings_of world.cache ≡ settings) × HasRun settings world
reached settings [] world is = (
  is.settings_are,
  subst (λ (h : History). Run settings.policy settings.limits h (contents_of world.cache.store))
      (sym (ap calls_of is.silent)) is.empty,
)
reached settings (last ∷ deeds) world (before, were, acts) =
    let on = reached settings deeds before were in (
      step-settings (before.passes last.0) before.cache (world.passes last.0) world.cache acts.calls last.1 acts.step
          ∙ on.0,
      acts-run settings last.0 last.1 before world on.0 on.1 acts,
    )
