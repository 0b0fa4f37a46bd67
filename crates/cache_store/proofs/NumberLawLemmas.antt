-- What a number shows after any calls.
use Rattle.std.proofs.Common.{[], ◌<◌, ◌∷◌, ◌≡◌, ◌≤◌, ◌⊎◌, ap, arith, List, None, Option, refl, Some, subst, sym, ℕ}
use Rattle.{std.proofs.{Common.{◌∙◌, inl, inr}, lemmas.Bool.cases_lt}, cache_policy.specs.Policies.Policy}
use Rattle.{cache_rules.specs.declared.stored.StoredResponse.StoredResponse, cache_store.specs.Contents.Contents}
use Rattle.cache_store.specs.{Contents.{responses_at, Target}, declared.limits.Limits.Limits, History.{Has, HasUnder}}
use Rattle.cache_store.specs.{History.{History, RunFrom, State}, Numbers.{AreNumbered, numbered, times_in, times_used}}
use Rattle.cache_store.proofs.{HistoryLemmas.HasUnder-responses_at, NumberLemmas.{Has-numbered, times-cons, times-has}}
use Rattle.cache_store.proofs.NumberLemmas.{used-cons}

-- ---- a run

pub run_kept : (policy : Policy) (limits : Limits) (first : State) (calls : History) (last : State)
    → RunFrom policy limits first calls last → (first.next ≤ last.next) × ((target : List ℕ) (stored : StoredResponse)
    → HasUnder last.contents target stored → stored.number < first.next → HasUnder first.contents target stored)
run_kept policy limits first [] last same = (
  omega (arith, ap (λ (s : State). s.next) same),
  λ target stored h old. subst (λ (s : State). HasUnder s.contents target stored) same h,
)
run_kept policy limits first (call ∷ calls) last (before, ran, step, goes, are) =
    let earlier = run_kept policy limits first calls before ran in (
      omega (arith, earlier.0, goes.rises),
      λ target stored h old. elim (goes.kept target stored h) [
        | inl under ↦ earlier.1 target stored under old
        | inr fresh ↦ absurd (omega (arith, earlier.0, fresh, old))
      ],
    )

-- ---- one number

two-in : (number : ℕ) (xs : List StoredResponse) (x a b : StoredResponse) → times_in number (x ∷ xs) ≤ 1 → x ≡ a
    → Has xs b → a.number ≡ number → b.number ≡ number → ⊥
two-in number xs x a b once here there is_a is_b = let first = times-has number (x ∷ []) a (inl here) is_a in
    let other = times-has number xs b there is_b in omega (arith, times-cons number x xs, times-cons number x [])

unique-in : (number : ℕ) (xs : List StoredResponse) (a b : StoredResponse) → times_in number xs ≤ 1 → Has xs a
    → Has xs b → a.number ≡ number → b.number ≡ number → a ≡ b
unique-in number [] a b once none h is_a is_b = absurd none
unique-in number (x ∷ xs) a b once (inl here) (inl too) is_a is_b = sym here ∙ too
unique-in number (x ∷ xs) a b once (inl here) (inr there) is_a is_b =
    absurd (two-in number xs x a b once here there is_a is_b)
unique-in number (x ∷ xs) a b once (inr there) (inl here) is_a is_b =
    absurd (two-in number xs x b a once here there is_b is_a)
unique-in number (x ∷ xs) a b once (inr one) (inr other) is_a is_b =
    unique-in number xs a b (omega (arith, once, times-cons number x xs)) one other is_a is_b

module _ (number : ℕ) where
  used-has : (contents : Contents) (entry : Target) (stored : StoredResponse) → Has contents entry
      → Has entry.1 stored → stored.number ≡ number → 1 ≤ times_used number contents
  used-has [] entry stored none among is = absurd none
  used-has (first ∷ contents) entry stored (inl here) among is = let counts_once = times-has number first.1 stored
      (subst (λ (e : Target). Has e.1 stored) (sym here) among) is in omega (arith, used-cons number first contents)
  used-has (first ∷ contents) entry stored (inr there) among is =
      omega (arith, used-cons number first contents, used-has contents entry stored there among is)

  one-in : (contents : Contents) (e f : Target) (a b : StoredResponse) → times_used number contents ≤ 1 → Has contents e
      → Has e.1 a → Has contents f → Has f.1 b → a.number ≡ number → b.number ≡ number → (e.0 ≡ f.0) × (a ≡ b)
  one-in [] e f a b once none among_a at_f among_b is_a is_b = absurd none
  one-in (first ∷ contents) e f a b once (inl here) among_a (inl too) among_b is_a is_b = (
    ap (λ (t : Target). t.0) (sym here ∙ too),
    unique-in number first.1 a b (omega (arith, once, used-cons number first contents)) (rw (← here) at among_a)
        (rw (← too) at among_b) is_a is_b,
  )
  one-in (first ∷ contents) e f a b once (inl here) among_a (inr there) among_b is_a is_b = absurd (omega (
    arith,
    once,
    used-cons number first contents,
    times-has number first.1 a (rw (← here) at among_a) is_a,
    used-has contents f b there among_b is_b,
  ))
  one-in (first ∷ contents) e f a b once (inr there) among_a (inl here) among_b is_a is_b = absurd (omega (
    arith,
    once,
    used-cons number first contents,
    times-has number first.1 b (rw (← here) at among_b) is_b,
    used-has contents e a there among_a is_a,
  ))
  one-in (first ∷ contents) e f a b once (inr one) among_a (inr other) among_b is_a is_b =
      one-in contents e f a b (omega (arith, once, used-cons number first contents)) one among_a other among_b is_a is_b

below-next : (next : ℕ) (contents : Contents) → AreNumbered next contents → (target : List ℕ)
    (stored : StoredResponse) → HasUnder contents target stored → stored.number < next
below-next next contents are target stored h = elim (cases_lt stored.number next) [
  | inl below ↦ below
  | inr past ↦ absurd (omega (
    arith,
    are.below stored.number past,
    used-has stored.number contents (target, h.responses) stored h.at h.among refl,
  ))
]

pub run_shows : (policy : Policy) (limits : Limits) (first : State) (calls : History) (last : State)
    → AreNumbered first.next first.contents → RunFrom policy limits first calls last
    → (target : List ℕ) (stored : StoredResponse) → HasUnder first.contents target stored → (other : List ℕ)
    → (numbered stored.number (responses_at other last.contents) ≡ None)
    ⊎ ((other ≡ target) × (numbered stored.number (responses_at other last.contents) ≡ Some stored))
run_shows policy limits first calls last are ran target stored h other =
    by_found (numbered stored.number (responses_at other last.contents)) refl
  where
    by_found : (found : Option StoredResponse) → numbered stored.number (responses_at other last.contents) ≡ found
        → (numbered stored.number (responses_at other last.contents) ≡ None)
        ⊎ ((other ≡ target) × (numbered stored.number (responses_at other last.contents) ≡ Some stored))
    by_found None none = inl none
    by_found (Some shown) at = let has = Has-numbered (responses_at other last.contents) stored.number shown at in
        let under = HasUnder-responses_at other last.contents shown has.0 in
        let below = below-next first.next first.contents are target stored h in
        let was = (run_kept policy limits first calls last ran).1 other shown under (omega (arith, below, has.1)) in
        let one = one-in stored.number first.contents (other, was.responses) (target, h.responses) shown stored
        (are.once stored.number) was.at was.among h.at h.among has.1 refl in inr (one.0, at ∙ ap Some one.1)
