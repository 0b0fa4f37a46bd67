-- What is stored was asked since its target was last removed.
use Rattle.{cache_rules.specs.declared.storing.Reception.{Reception, TheVariants.Complete}, url.specs.Parts.serialize}
use Rattle.cache_store.specs.History.{Call, Call.{Answered, Arrived, Looked, Removed}, History, Removes}
use Rattle.http_header.specs.{FieldValue.FieldValue, HeaderMap.Entries}
use Rattle.std.{proofs.lemmas.Option.same_Some, specs.{declared.alloc.AllocError.AllocError, Prelude.⊤}}
use Rattle.std.proofs.Common.{◌++◌, ◌≡◌, ◌≤◌, ◌⊎◌, ap, arith, false, inl, map, None, Ok, refl, Result, subst, true, ℕ}
use Rattle.{cache_pass.specs.declared.cache.Cache.Cache, std.proofs.Common.{[], ◌∙◌, ◌∷◌, inr, List, Option, Some, sym}}
use Rattle.cache_pass.specs.declared.pass.{Asked.Asked, Pass.Pass, Phase.{Phase, TheVariants.{Asking, Ended, Passing}}}
use Rattle.cache_pass.specs.declared.{removals.Removals.Removals, replying.First.First, revalidating.Next.Next}
use Rattle.cache_pass.specs.{Steps.{HasCome, HasEnded}, Worlds.{asked_in, asks_of, IsCurrent, IsStep, Log, StoresAt}}
use Rattle.cache_pass.specs.Worlds.{Acts, AreCurrent, Deed, Deed.{Apart, Begins, Comes, Ends, Fails}, Reaches, World}
use Rattle.cache_pass.specs.{Effects.{DoAll, Does, Kept, removals, Settings, settings_of}, Worlds.Event.{Asks, Calls}}
use Rattle.cache_pass.specs.{Effects.kept_of, Passes.{asked_of, key_of, phase_after, phase_first}}
use Rattle.cache_pass.{proofs.CallLemmas.{none-some, step-does}, specs.Removals.{IsNoted, IsOutdated}}
use Rattle.cache_pass.specs.declared.replying.First.TheVariants as first
use Rattle.cache_pass.specs.declared.revalidating.Next.TheVariants as next

-- what the clock showed when the pass asked last, if what it asked for may still be stored
abbrev clock_of : Phase → Option ℕ
clock_of (Asking asked) = Some asked.clock
clock_of (Passing asked status response) = Some asked.clock
clock_of other = None

asking-clock : (phase : Phase) (asked : Asked) → asked_of phase ≡ Some asked → clock_of phase ≡ Some asked.clock
asking-clock (Asking other) asked is = ap (λ (a : Asked). Some a.clock) (same_Some other asked is)
asking-clock phase asked is = absurd (none-some is)

-- Passes that show these clocks asked when they showed that, and a target that isn't outdated for one wasn't removed
-- since.
record IsDated (log : Log) (noted : Removals) (clocks : ℕ → Option ℕ) : Type 0 where
  current : AreCurrent log
  dated : (pass clock : ℕ) → clocks pass ≡ Some clock → (clock ≤ noted.clock)
      × ((target : List ℕ) → ¬ (IsOutdated noted target clock) → IsCurrent pass target log)

-- ---- calls

module _ (settings : Settings) (clocks : ℕ → Option ℕ) (pass : ℕ) where
  unnoted : (call : Call) (log : Log) (old new : Removals) → ((target : List ℕ) → ¬ (Removes target call)) → new ≡ old
      → IsDated log old clocks → ((target : List ℕ) → StoresAt target call → IsCurrent pass target log)
      → IsDated (Calls pass call ∷ log) new clocks
  unnoted call log old new keeps same d guard = record {
    current = (guard, d.current);
    dated = λ p clock is. let was = d.dated p clock is in (
      rw same was.0,
      λ target fine. (keeps target, was.1 target (λ out. fine (rw same out))),
    );
  }

  noted : (call : Call) (at : List ℕ) (log : Log) (old new : Removals)
      → ((target : List ℕ) → Removes target call → at ≡ target) → IsNoted at old new → IsDated log old clocks
      → ((target : List ℕ) → StoresAt target call → IsCurrent pass target log)
      → IsDated (Calls pass call ∷ log) new clocks
  noted call at log old new only is_noted d guard = record {
    current = (guard, d.current);
    dated = λ p clock is. let was = d.dated p clock is in (
      omega (arith, was.0, is_noted.rises),
      λ target fine. (
        (λ removes. fine (subst (λ (t : List ℕ). IsOutdated new t clock) (only target removes)
            (is_noted.outdates clock was.0))),
        was.1 target (λ out. fine (is_noted.stays target clock out)),
      ),
    );
  }

  after-call : (call : Call) (log : Log) (old new : Kept) → Does settings call old new
      → IsDated log old.removals clocks → ((target : List ℕ) → StoresAt target call → IsCurrent pass target log)
      → IsDated (Calls pass call ∷ log) new.removals clocks
  after-call (Answered at method status) log old new does d guard = noted (Answered at method status) at log
      old.removals new.removals (λ target removes. removes.0) does.noted d guard
  after-call (Removed at) log old new does d guard =
      noted (Removed at) at log old.removals new.removals (λ target removes. removes) does.noted d guard
  after-call call log old new does d guard =
      unnoted call log old.removals new.removals (λ target none. none) does.noted d guard

-- each call that stores is of a pass that has asked since the target was last removed
abbrev AreGuarded : ℕ → History → Log → Type 0
AreGuarded pass [] log = ⊤
AreGuarded pass (call ∷ calls) log =
    ((target : List ℕ) → StoresAt target call → IsCurrent pass target (map (Calls pass) calls ++ log))
    × AreGuarded pass calls log

after-calls : (settings : Settings) (clocks : ℕ → Option ℕ) (pass : ℕ) (calls : History) (log : Log) (old new : Kept)
    → DoAll settings calls old new → IsDated log old.removals clocks → AreGuarded pass calls log
    → IsDated (map (Calls pass) calls ++ log) new.removals clocks
after-calls settings clocks pass [] log old new same d guarded =
    subst (λ (k : Kept). IsDated log k.removals clocks) (sym same) d
after-calls settings clocks pass (call ∷ calls) log old new (before, done, does) d guarded =
    after-call settings clocks pass call (map (Calls pass) calls ++ log) before new does
    (after-calls settings clocks pass calls log old before done d guarded.1) guarded.0

-- ---- which calls are guarded

abbrev StoreNothing : History → Type 0
StoreNothing [] = ⊤
StoreNothing (call ∷ calls) = ((target : List ℕ) → ¬ (StoresAt target call)) × StoreNothing calls

store-nothing-append : (a b : History) → StoreNothing a → StoreNothing b → StoreNothing (a ++ b)
store-nothing-append [] b none all = all
store-nothing-append (call ∷ a) b some all = (some.0, store-nothing-append a b some.1 all)

removals-store-nothing : (targets : List (List ℕ)) → StoreNothing (removals targets)
removals-store-nothing [] = tt
removals-store-nothing (target ∷ targets) = store-nothing-append (removals targets) (Removed target ∷ [])
    (removals-store-nothing targets) ((λ other none. none), tt)

nothing-guarded : (pass : ℕ) (calls : History) (log : Log) → StoreNothing calls → AreGuarded pass calls log
nothing-guarded pass [] log none = tt
nothing-guarded pass (call ∷ calls) log some =
    ((λ target stores. absurd (some.0 target stores)), nothing-guarded pass calls log some.1)

module _ (pass : ℕ) (old : Pass) (before : Cache) (new : Pass) (after : Cache) (log : Log)
    (clocks : ℕ → Option ℕ) (own : clocks pass ≡ clock_of old.phase) (d : IsDated log before.removals clocks) where
  abbrev Guarded : History → Type 0
  Guarded made = AreGuarded pass made log

  looked : (made : History) → made ≡ Looked (key_of old) ∷ [] → Guarded made
  looked made same = subst Guarded (sym same) ((λ target none. absurd none), tt)

  -- what isn't outdated wasn't removed
  own-current : (asked : Asked) → clock_of old.phase ≡ Some asked.clock
      → ¬ (IsOutdated before.removals (key_of old) asked.clock) → (target : List ℕ) → key_of old ≡ target
      → IsCurrent pass target log
  own-current asked is fine target same =
      subst (λ (t : List ℕ). IsCurrent pass t log) same ((d.dated pass asked.clock (own ∙ is)).1 (key_of old) fine)

  come-guarded : (status : ℕ) (response : Entries FieldValue) (now : ℕ) (given : Result Next AllocError)
      → (h : HasCome old before status response now new after given) → Guarded h.calls
  come-guarded status response now given h = elim h.answer [
    | inl (validates, outdated, none, asks) ↦ subst Guarded (sym none) tt
    | inr (inl (validates, fine, one, is)) ↦ subst Guarded (sym one)
        (own-current h.asked (asking-clock old.phase h.asked h.asking) fine, tt)
    | inr (inr (inl (other, failed, one, is))) ↦ looked h.calls one
    | inr (inr (inr (other, unfailed, inl (unsafe, (named, are, removed)), is))) ↦
        subst Guarded (sym removed) (nothing-guarded pass (removals (key_of old ∷ map serialize named)) log
        (removals-store-nothing (key_of old ∷ map serialize named)))
    | inr (inr (inr (other, unfailed, inr (safe, none), is))) ↦ subst Guarded (sym none) tt
  ]

  ended-guarded : (content : List ℕ) (reception : Reception) (now : ℕ) (number : Result (Option ℕ) AllocError)
      → (h : HasEnded old before content reception now new after number) → Guarded h.calls
  ended-guarded content reception now number h = elim h.closed [
    | inl (complete, (came, received, inl (past, none, same, unnamed))) ↦ subst Guarded (sym none) tt
    | inl (complete, (came, received, inr (timely, storing))) ↦
        let current = own-current h.asked (ap clock_of h.passing) (λ outdated. timely (inl outdated)) in
        subst Guarded (sym storing.all) (elim storing.describing [
          | inl (is, one) ↦ subst (λ (made : History). Guarded (Arrived (key_of old) came Complete ∷ made)) (sym one)
              ((λ target same. ((λ none. none), current target same)), ((λ target same. current target same), tt))
          | inr (isnt, none) ↦ subst (λ (made : History). Guarded (Arrived (key_of old) came Complete ∷ made))
              (sym none) ((λ target same. current target same), tt)
        ])
    | inr (same, none, unnamed) ↦ subst Guarded (sym none) tt
  ]

  step-guarded : (calls : History) (deed : Deed) → IsStep deed old before new after calls → Guarded calls
  step-guarded calls (Comes status response now given) (h, same) =
      subst Guarded (sym same) (come-guarded status response now given h)
  step-guarded calls (Ends content reception now number) (h, same) =
      subst Guarded (sym same) (ended-guarded content reception now number h)
  step-guarded calls (Apart call) (apart, does, set, kept, same) =
      subst Guarded (sym same) ((λ target stores. absurd (apart target stores)), tt)
  step-guarded calls (Begins now given) (h, same) = looked calls same
  step-guarded calls (Fails now found) (h, same) = looked calls same

-- ---- how far passes are

-- a pass that shows the clock has asked just now, or showed it before
abbrev HasClock : ℕ → ℕ → ℕ → Phase → Phase → Type 0
HasClock pass noted clock old new = clock_of new ≡ Some clock → ((asks_of pass new ≡ Asks pass ∷ []) × (clock ≡ noted))
    ⊎ ((asks_of pass new ≡ []) × (clock_of old ≡ Some clock))

-- the same of a step
abbrev HasClockIn : Deed → ℕ → ℕ → ℕ → Phase → Phase → Type 0
HasClockIn deed pass noted clock old new =
    clock_of new ≡ Some clock → ((asked_in deed pass new ≡ Asks pass ∷ []) × (clock ≡ noted))
    ⊎ ((asked_in deed pass new ≡ []) × (clock_of old ≡ Some clock))

module _ (pass : ℕ) (noted clock : ℕ) where
  ended-clock : (old : Phase) → HasClock pass noted clock old Ended
  ended-clock old is = absurd (none-some is)

  asked-clock : (old : Phase) (asked : Asked) → asked.clock ≡ noted → HasClock pass noted clock old (Asking asked)
  asked-clock old asked now is = inl (refl, sym (same_Some asked.clock clock is) ∙ now)

  first-clock : (old : Phase) (given : Result First AllocError) (now : ℕ)
      → HasClock pass noted clock old (phase_first given now noted)
  first-clock old (Ok first.Ask) now =
      asked-clock old (record { requested = now; clock = noted; validates = false }) refl
  first-clock old (Ok (first.Validate fields)) now =
      asked-clock old (record { requested = now; clock = noted; validates = true }) refl
  first-clock old given now = ended-clock old

  next-clock : (old : Phase) (given : Result Next AllocError) (asked : Asked) (status : ℕ)
      (response : Entries FieldValue) (now : ℕ) → clock_of old ≡ Some asked.clock
      → HasClock pass noted clock old (phase_after given asked status response now noted)
  next-clock old (Ok next.Ask) asked status response now was =
      asked-clock old (record { requested = now; clock = noted; validates = false }) refl
  next-clock old (Ok (next.PassOn true)) asked status response now was = λ is. inr (refl, was ∙ is)
  next-clock old given asked status response now was = ended-clock old

  step-clock : (old : Pass) (before : Cache) (new : Pass) (after : Cache) (calls : History) (deed : Deed)
      → after.removals.clock ≡ noted → IsStep deed old before new after calls
      → HasClockIn deed pass noted clock old.phase new.phase
  step-clock old before new after calls (Begins now given) shows (h, same) =
      rw (h.phase, shows) (first-clock old.phase given now)
  step-clock old before new after calls (Comes status response now given) shows (h, same) = rw (h.phase, shows)
      (next-clock old.phase given h.asked status response now (asking-clock old.phase h.asked h.asking))
  step-clock old before new after calls (Apart call) shows (apart, does, set, kept, same) =
      λ is. inr (refl, ap (λ (p : Pass). clock_of p.phase) (sym kept) ∙ is)
  step-clock old before new after calls (Fails now found) shows (h, same) = rw h.phase (ended-clock old.phase)
  step-clock old before new after calls (Ends content reception now number) shows (h, same) =
      rw h.phase (ended-clock old.phase)

-- ---- what is asked

current-asks : (pass : ℕ) (phase : Phase) (log : Log) → AreCurrent log → AreCurrent (asks_of pass phase ++ log)
current-asks pass (Asking asked) log are = are
current-asks pass phase log are = are

current-more : (other : ℕ) (target : List ℕ) (pass : ℕ) (phase : Phase) (log : Log) → IsCurrent other target log
    → IsCurrent other target (asks_of pass phase ++ log)
current-more other target pass (Asking asked) log is = inr is
current-more other target pass phase log is = is

current-asked : (deed : Deed) (pass : ℕ) (phase : Phase) (log : Log) → AreCurrent log
    → AreCurrent (asked_in deed pass phase ++ log)
current-asked (Apart call) pass phase log are = are
current-asked deed pass phase log are = current-asks pass phase log are

current-further : (deed : Deed) (other : ℕ) (target : List ℕ) (pass : ℕ) (phase : Phase) (log : Log)
    → IsCurrent other target log → IsCurrent other target (asked_in deed pass phase ++ log)
current-further (Apart call) other target pass phase log is = is
current-further deed other target pass phase log is = current-more other target pass phase log is

-- ---- a run

abbrev clocks_of : World → ℕ → Option ℕ
clocks_of world pass = clock_of (world.passes pass).phase

module _ (pass : ℕ) (deed : Deed) (old new : World) (acts : Acts pass deed old new)
    (d : IsDated old.log old.cache.removals (clocks_of old)) where
  abbrev made : Log
  made = map (Calls pass) acts.calls ++ old.log

  between : IsDated made new.cache.removals (clocks_of old)
  between = after-calls (settings_of old.cache) (clocks_of old) pass acts.calls old.log (kept_of old.cache)
      (kept_of new.cache) (step-does (old.passes pass) old.cache (new.passes pass) new.cache acts.calls deed acts.step)
      d (step-guarded pass (old.passes pass) old.cache (new.passes pass) new.cache old.log (clocks_of old) refl d
      acts.calls deed acts.step)

  abbrev Holds : ℕ → ℕ → Log → Type 0
  Holds p clock log = (clock ≤ new.cache.removals.clock)
      × ((target : List ℕ) → ¬ (IsOutdated new.cache.removals target clock) → IsCurrent p target log)

  own-dated : (clock : ℕ) → clocks_of new pass ≡ Some clock
      → Holds pass clock (asked_in deed pass (new.passes pass).phase ++ made)
  own-dated clock is = elim (step-clock pass new.cache.removals.clock clock (old.passes pass) old.cache
      (new.passes pass) new.cache acts.calls deed refl acts.step is) [
        | inl (asks, same) ↦ rw asks (omega (arith, same), λ target fine. inl refl)
        | inr (asks, was) ↦ rw asks (between.dated pass clock was)
      ]

  acts-dated : IsDated new.log new.cache.removals (clocks_of new)
  acts-dated = record {
    current = subst AreCurrent (sym acts.log) (current-asked deed pass (new.passes pass).phase made between.current);
    dated = λ p clock is. subst (Holds p clock) (sym acts.log) (elim (acts.others p) [
      | inl same ↦ subst (λ (q : ℕ). Holds q clock (asked_in deed pass (new.passes pass).phase ++ made)) (sym same)
          (own-dated clock (subst (λ (q : ℕ). clocks_of new q ≡ Some clock) same is))
      | inr same ↦ let was = between.dated p clock (ap (λ (q : Pass). clock_of q.phase) (sym same) ∙ is) in (
        was.0,
        λ target fine. current-further deed p target pass (new.passes pass).phase made (was.1 target fine),
      )
    ]);
  }

dated : (settings : Settings) (deeds : List (ℕ × Deed)) (world : World) → Reaches settings deeds world
    → IsDated world.log world.cache.removals (clocks_of world)
dated settings [] world is = record {
  current = subst AreCurrent (sym is.silent) tt;
  dated = λ p clock shows. absurd (none-some (sym (ap clock_of (is.began p)) ∙ shows));
}
dated settings (last ∷ deeds) world (before, were, acts) =
    acts-dated last.0 last.1 before world acts (dated settings deeds before were)

pub stored-was-asked : (settings : Settings) (deeds : List (ℕ × Deed)) (world : World) → Reaches settings deeds world
    → AreCurrent world.log
stored-was-asked settings deeds world is = (dated settings deeds world is).current
