-- Runs that differ only in what the origin answered, where that isn't to be stored.
use Rattle.cache_pass.specs.Worlds.{Acts, asked_in, Deed, Deed.{Apart, Begins, Comes, Ends, Fails}, Log, Reaches}
use Rattle.cache_pass.specs.{declared.{cache.Cache.Cache, revalidating.Next.Next}, Worlds.{Event.Calls, IsStep, World}}
use Rattle.cache_pass.specs.{declared.pass.{Asked.Asked, Pass.Pass, Phase.TheVariants.Ended}, Steps.HasCome}
use Rattle.cache_pass.specs.{Keeping.IsWanted, Origin.IsPassedOn, Unstored.{AreAlike, AreUnstored, IsUnstored}}
use Rattle.cache_pass.specs.{Origin.{IsFailing, IsNext}, Passes.{IsSameRequest, key_of, phase_after, request_of_pass}}
use Rattle.cache_pass.{proofs.CallLemmas.reached, specs.Effects.{DoAll, Kept, kept_of, Settings, settings_of}}
use Rattle.{cache_rules.specs.Errors.IsFailure, headers.specs.LineMap.lines_at}
use Rattle.std.{proofs.Common.{[], ◌++◌}, specs.declared.alloc.AllocError.AllocError}
use Rattle.std.proofs.Common.{◌↔◌, ◌∙◌, ◌∷◌, ◌≡◌, ap, false, inl, inr, List, map, Ok, refl, Result, subst, sym, true, ℕ}
use Rattle.http_header.specs.{FieldValue.FieldValue, HeaderMap.Entries}
use Rattle.{cache_policy.specs.Requests.{IsSafe, Request}, cache_store.specs.History.History}
use Rattle.cache_pass.specs.declared.revalidating.Next.TheVariants as next

-- ---- a response in place of another one

module _ (settings : Settings) (key : List ℕ) (request : Request) (now : ℕ) (status other_status : ℕ)
    (response other : Entries FieldValue) (isnt : IsUnstored settings request status (lines_at response))
    (other_isnt : IsUnstored settings request other_status (lines_at other))
    (failures : IsFailure status ↔ IsFailure other_status) where
  passed-too : (given : Result Next AllocError) → IsPassedOn settings key request status (lines_at response) given
      → IsPassedOn settings key request other_status (lines_at other) given
  passed-too (Ok (next.PassOn true)) wanted = absurd (isnt.unwanted wanted)
  passed-too (Ok (next.PassOn false)) unwanted = other_isnt.unwanted
  passed-too given none = absurd none

  failing-too : (after : Kept) (given : Result Next AllocError)
      → IsFailing settings key request status (lines_at response) now after given
      → IsFailing settings key request other_status (lines_at other) now after given
  failing-too after (Ok (next.PassOn kept)) is = (is.0, passed-too (Ok (next.PassOn kept)) is.1)
  failing-too after given is = is

  next-too : (asked : Asked) (before after : Kept) (calls : History) (given : Result Next AllocError)
      → IsNext settings key request asked status (lines_at response) now before after calls given
      → IsNext settings key request asked other_status (lines_at other) now before after calls given
  next-too asked before after calls given is = elim is [
    | inl (validates, outdated, none, asks) ↦ absurd (isnt.unvalidated validates.1)
    | inr (inl (validates, current, one, updated)) ↦ absurd (isnt.unvalidated validates.1)
    | inr (inr (inl (another, failed, one, shown))) ↦ inr (inr (inl (
      (λ validates. other_isnt.unvalidated validates.1),
      failures.0 failed,
      one,
      failing-too after given shown,
    )))
    | inr (inr (inr (another, unfailed, inl (unsafe, removed), passed))) ↦ absurd (unsafe.0 isnt.safe)
    | inr (inr (inr (another, unfailed, inr (valid, none), passed))) ↦ inr (inr (inr (
      (λ validates. other_isnt.unvalidated validates.1),
      (λ failed. unfailed (failures.1 failed)),
      inr ((λ unsafe. unsafe.0 isnt.safe), none),
      passed-too given passed,
    )))
  ]

  -- how far the pass is then
  next-phase : (asked : Asked) (clock : ℕ) (before after : Kept) (calls : History) (given : Result Next AllocError)
      → IsNext settings key request asked status (lines_at response) now before after calls given
      → phase_after given asked status response now clock ≡ phase_after given asked other_status other now clock
  next-phase asked clock before after calls (Ok (next.PassOn true)) is = elim is [
    | inl (validates, outdated, none, asks) ↦ absurd (isnt.unvalidated validates.1)
    | inr (inl (validates, current, one, updated)) ↦ absurd (isnt.unvalidated validates.1)
    | inr (inr (inl (another, failed, one, shown))) ↦ absurd (isnt.unwanted shown.1)
    | inr (inr (inr (another, unfailed, removed, passed))) ↦ absurd (isnt.unwanted passed)
  ]
  next-phase asked clock before after calls given is = refl

-- ---- a step

abbrev request_by : List ℕ → Entries FieldValue → Request
request_by method fields = record { method = method; fields = lines_at fields }

module _ (pass : Pass) (before : Cache) (new : Pass) (after : Cache) (calls : History) where
  step-same : (deed : Deed) → IsStep deed pass before new after calls → IsSameRequest pass new
  step-same (Apart call) (apart, does, set, kept, same) =
      subst (IsSameRequest pass) (sym kept) (record { key = refl; method = refl; request = refl })
  step-same (Begins now first) (h, same) = h.same
  step-same (Comes status response now given) (h, same) = h.same
  step-same (Fails now found) (h, same) = h.same
  step-same (Ends content reception now number) (h, same) = h.same

  step-request : (deed : Deed) → IsStep deed pass before new after calls → request_of_pass pass ≡ request_of_pass new
  step-request deed is =
      let same = step-same deed is in
      ap (λ (m : List ℕ). request_by m pass.request) (sym same.method) ∙ ap (request_by new.method) (sym same.request)

  step-too : (one other : Deed) → AreUnstored (settings_of before) (request_of_pass pass) one other
      → IsStep one pass before new after calls → IsStep other pass before new after calls
  step-too one other are is =
      let come = subst (λ (d : Deed). IsStep d pass before new after calls) are.comes is in
      let h = come.0 in
      subst (λ (d : Deed). IsStep d pass before new after calls) (sym are.other_comes) (
        record {
          asked = h.asked;
          asking = h.asking;
          calls = h.calls;
          answer = next-too (settings_of before) (key_of pass) (request_of_pass pass) are.now are.status
              are.other_status are.response are.other_response are.unstored are.other_unstored are.failures h.asked
              (kept_of before) (kept_of after) h.calls are.next h.answer;
          does = h.does;
          settings = h.settings;
          same = h.same;
          phase = h.phase ∙ next-phase (settings_of before) (key_of pass) (request_of_pass pass) are.now are.status
              are.other_status are.response are.other_response are.unstored are.other_unstored are.failures h.asked
              after.removals.clock (kept_of before) (kept_of after) h.calls are.next h.answer;
        },
        come.1,
      )

-- ---- a run

module _ (settings : Settings) (requests : ℕ → Request) where
  -- the passes are for these requests
  abbrev AreFor : World → Type 0
  AreFor world = (pass : ℕ) → request_of_pass (world.passes pass) ≡ requests pass

  were-for : (pass : ℕ) (deed : Deed) (old new : World) → Acts pass deed old new → AreFor new → AreFor old
  were-for pass deed old new acts are other = elim (acts.others other) [
    | inl same ↦ subst (λ (p : ℕ). request_of_pass (old.passes p) ≡ requests p) (sym same)
        (step-request (old.passes pass) old.cache (new.passes pass) new.cache acts.calls deed acts.step ∙ are pass)
    | inr same ↦ ap request_of_pass (sym same) ∙ are other
  ]

  acts-too : (pass : ℕ) (one other : Deed) (old new : World) → settings_of old.cache ≡ settings → AreFor old
      → AreUnstored settings (requests pass) one other → Acts pass one old new → Acts pass other old new
  acts-too pass one other old new set are alike acts = record {
    calls = acts.calls;
    step = step-too (old.passes pass) old.cache (new.passes pass) new.cache acts.calls one other
        (subst (λ (s : Settings). AreUnstored s (request_of_pass (old.passes pass)) one other) (sym set)
        (subst (λ (r : Request). AreUnstored settings r one other) (sym (are pass)) alike)) acts.step;
    others = acts.others;
    log = acts.log ∙ ap (λ (asked : Log). asked ++ (map (Calls pass) acts.calls ++ old.log))
        (ap (λ (d : Deed). asked_in d pass (new.passes pass).phase) alike.comes
        ∙ sym (ap (λ (d : Deed). asked_in d pass (new.passes pass).phase) alike.other_comes));
  }

  pub alike : (ones others : List (ℕ × Deed)) (world : World) → Reaches settings ones world → AreFor world
      → AreAlike settings requests ones others → Reaches settings others world
  alike [] [] world is are same = is
  alike [] (other ∷ others) world is are none = absurd none
  alike (one ∷ ones) [] world is are none = absurd none
  alike (one ∷ ones) (other ∷ others) world (before, were, acts) are (step, rest) =
      let earlier = were-for one.0 one.1 before world acts are in (
        before,
        alike ones others before were earlier rest,
        elim step [
          | inl same ↦ subst (λ (s : ℕ × Deed). Acts s.0 s.1 before world) same acts
          | inr (name, differ) ↦ subst (λ (p : ℕ). Acts p other.1 before world) name
              (acts-too one.0 one.1 other.1 before world (reached settings ones before were).0 earlier differ acts)
        ],
      )

-- ---- what a response that isn't stored leaves

module _ (old : Pass) (before : Cache) (status : ℕ) (response : Entries FieldValue) (now : ℕ) (new : Pass)
    (after : Cache)
    (unwanted : ¬ (IsWanted (settings_of before).policy (request_of_pass old) status (lines_at response))) where
  passed-ended : (given : Result Next AllocError)
      → IsPassedOn (settings_of before) (key_of old) (request_of_pass old) status (lines_at response) given
      → (asked : Asked) (clock : ℕ) → phase_after given asked status response now clock ≡ Ended
  passed-ended (Ok next.Ask) none asked clock = absurd none
  passed-ended (Ok (next.PassOn true)) wanted asked clock = absurd (unwanted wanted)
  passed-ended given is asked clock = refl

  pub leaves-nothing : (given : Result Next AllocError) → (h : HasCome old before status response now new after given)
      → IsSafe old.method → ¬ (IsFailure status) → ¬ (status ≡ 304)
      → (kept_of after ≡ kept_of before) × (new.phase ≡ Ended)
  leaves-nothing given h safe fine other = elim h.answer [
    | inl (validates, outdated, none, asks) ↦ absurd (other validates.1)
    | inr (inl (validates, current, one, is)) ↦ absurd (other validates.1)
    | inr (inr (inl (another, failed, one, is))) ↦ absurd (fine failed)
    | inr (inr (inr (another, unfailed, inl (unsafe, removed), is))) ↦ absurd (unsafe.0 safe)
    | inr (inr (inr (another, unfailed, inr (valid, none), is))) ↦ (
      subst (λ (calls : History). DoAll (settings_of before) calls (kept_of before) (kept_of after)) none h.does,
      h.phase ∙ passed-ended given is h.asked after.removals.clock,
    )
  ]
