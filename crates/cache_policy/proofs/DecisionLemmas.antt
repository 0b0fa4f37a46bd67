-- What follows from the rows of `Answers`, and from the sums of an age.
use Rattle.std.proofs.Common.{◌≡◌, ℕ, ◌+◌, ◌-◌, ◌<◌, ◌≤◌, min, Option, Some, None, refl, arith, inl, inr}
use Rattle.{std.specs.Prelude.{◌⊎◌, IfSome, IsSomeAnd, unwrap_or}, headers.specs.LineMap.LineMap}
use Rattle.cache_fields.specs.{Age.{age_at, corrected_initial_age}, Directives.directed, Fields.{capped, greatest}}
use Rattle.cache_fields.specs.declared.{age.Times.Times, directives.Directives.Directives, kind.Kind.Kind}
use Rattle.{cache_fields.proofs.FreshnessLemmas.one_lifetime, cache_policy.specs.Decisions.{Answers, AnswersUnstored}}
use Rattle.cache_policy.specs.Decisions.{Decides, DecidesBy, DecidesMatched, IsFromStore, IsGoodEnough, IsServable}
use Rattle.cache_policy.specs.Decisions.{IsServedMeanwhile, IsTakenStale, MayServeMeanwhile, MustBeFresh, freshness_at}
use Rattle.cache_policy.specs.{Requests.Request, declared.decision.Decision.{Decision, TheVariants.Serve}}
use Rattle.cache_policy.specs.declared.decision.Decision.TheVariants.{ServeAndRevalidate, ServeStale, Revalidate}
use Rattle.cache_policy.specs.declared.decision.Decision.TheVariants.{RevalidateOrServe, Unavailable, Fetch}
use Rattle.cache_policy.specs.declared.decision.Freshness.{Freshness}

module _ (kind : Kind) (asks tells : Directives) (freshness : Freshness) where
  -- an answer from the store is good enough
  good_enough : (a : Decision) → Answers kind asks tells freshness a → IsFromStore a
      → IsGoodEnough kind asks tells freshness
  good_enough Serve h s = (h.0, inl h.1)
  good_enough ServeAndRevalidate h s = (h.0, inr (inl h.2))
  good_enough ServeStale h s = (h.0, inr (inr h.3))
  good_enough RevalidateOrServe h s = absurd s
  good_enough Revalidate h s = absurd s
  good_enough Unavailable h s = absurd s
  good_enough Fetch h s = absurd s

  -- and one that is good enough is from the store
  from_store : (a : Decision) → Answers kind asks tells freshness a → IsGoodEnough kind asks tells freshness
      → IsFromStore a
  from_store Serve h g = tt
  from_store ServeAndRevalidate h g = tt
  from_store ServeStale h g = tt
  from_store RevalidateOrServe h g = h.0 g
  from_store Revalidate h g = h.0 g
  from_store Unavailable h g = h.0 g
  from_store Fetch h g = absurd h

  -- two answers from the store are one, and so are two others
  one_stored : (a b : Decision) → IsFromStore a → IsFromStore b → Answers kind asks tells freshness a
      → Answers kind asks tells freshness b → a ≡ b
  one_stored Serve Serve s t h k = refl
  one_stored Serve ServeAndRevalidate s t h k = absurd (k.1 h.1)
  one_stored Serve ServeStale s t h k = absurd (k.1 h.1)
  one_stored ServeAndRevalidate Serve s t h k = absurd (h.1 k.1)
  one_stored ServeAndRevalidate ServeAndRevalidate s t h k = refl
  one_stored ServeAndRevalidate ServeStale s t h k = absurd (k.2 h.2)
  one_stored ServeStale Serve s t h k = absurd (h.1 k.1)
  one_stored ServeStale ServeAndRevalidate s t h k = absurd (h.2 k.2)
  one_stored ServeStale ServeStale s t h k = refl
  one_stored RevalidateOrServe b s t h k = absurd s
  one_stored Revalidate b s t h k = absurd s
  one_stored Unavailable b s t h k = absurd s
  one_stored Fetch b s t h k = absurd s
  one_stored Serve Fetch s t h k = absurd t
  one_stored ServeAndRevalidate Fetch s t h k = absurd t
  one_stored ServeStale Fetch s t h k = absurd t
  one_stored Serve RevalidateOrServe s t h k = absurd t
  one_stored Serve Revalidate s t h k = absurd t
  one_stored Serve Unavailable s t h k = absurd t
  one_stored ServeAndRevalidate RevalidateOrServe s t h k = absurd t
  one_stored ServeAndRevalidate Revalidate s t h k = absurd t
  one_stored ServeAndRevalidate Unavailable s t h k = absurd t
  one_stored ServeStale RevalidateOrServe s t h k = absurd t
  one_stored ServeStale Revalidate s t h k = absurd t
  one_stored ServeStale Unavailable s t h k = absurd t

  one_unstored : (a b : Decision) → ¬ (IsFromStore a) → ¬ (IsFromStore b) → Answers kind asks tells freshness a
      → Answers kind asks tells freshness b → a ≡ b
  one_unstored RevalidateOrServe RevalidateOrServe s t h k = refl
  one_unstored RevalidateOrServe Revalidate s t h k = absurd (k.2 h.2)
  one_unstored RevalidateOrServe Unavailable s t h k = absurd (cc (h.1, k.1))
  one_unstored Revalidate RevalidateOrServe s t h k = absurd (h.2 k.2)
  one_unstored Revalidate Revalidate s t h k = refl
  one_unstored Revalidate Unavailable s t h k = absurd (cc (h.1, k.1))
  one_unstored Unavailable RevalidateOrServe s t h k = absurd (cc (h.1, k.1))
  one_unstored Unavailable Revalidate s t h k = absurd (cc (h.1, k.1))
  one_unstored Unavailable Unavailable s t h k = refl
  one_unstored Serve b s t h k = absurd (s tt)
  one_unstored ServeAndRevalidate b s t h k = absurd (s tt)
  one_unstored ServeStale b s t h k = absurd (s tt)
  one_unstored Fetch b s t h k = absurd h
  one_unstored RevalidateOrServe Fetch s t h k = absurd k
  one_unstored Revalidate Fetch s t h k = absurd k
  one_unstored Unavailable Fetch s t h k = absurd k
  one_unstored RevalidateOrServe Serve s t h k = absurd (t tt)
  one_unstored RevalidateOrServe ServeAndRevalidate s t h k = absurd (t tt)
  one_unstored RevalidateOrServe ServeStale s t h k = absurd (t tt)
  one_unstored Revalidate Serve s t h k = absurd (t tt)
  one_unstored Revalidate ServeAndRevalidate s t h k = absurd (t tt)
  one_unstored Revalidate ServeStale s t h k = absurd (t tt)
  one_unstored Unavailable Serve s t h k = absurd (t tt)
  one_unstored Unavailable ServeAndRevalidate s t h k = absurd (t tt)
  one_unstored Unavailable ServeStale s t h k = absurd (t tt)

  stored_or_not : (a : Decision) → IsFromStore a ⊎ ¬ (IsFromStore a)
  stored_or_not Serve = inl tt
  stored_or_not ServeAndRevalidate = inl tt
  stored_or_not ServeStale = inl tt
  stored_or_not RevalidateOrServe = inr (λ s. s)
  stored_or_not Revalidate = inr (λ s. s)
  stored_or_not Unavailable = inr (λ s. s)
  stored_or_not Fetch = inr (λ s. s)

  one_answer : (a b : Decision) → Answers kind asks tells freshness a → Answers kind asks tells freshness b → a ≡ b
  one_answer a b h k = elim (stored_or_not a) [
    | inl s ↦ one_stored a b s (from_store b k (good_enough a h s)) h k
    | inr n ↦ one_unstored a b n (λ t. n (from_store a h (good_enough b k t))) h k
  ]

  pub stale_where_let : (a : Decision) → Answers kind asks tells freshness a → IsFromStore a
      → freshness.lifetime ≤ freshness.age
      → (¬ (MustBeFresh kind tells)) × (IsTakenStale asks freshness ⊎ IsServedMeanwhile tells freshness)
  stale_where_let Serve h s l = let fresh : freshness.age < freshness.lifetime = h.1 in absurd (omega (arith, fresh, l))
  stale_where_let ServeAndRevalidate h s l = (h.2.0, inr h.2.1)
  stale_where_let ServeStale h s l = (h.3.0, inl h.3.1)
  stale_where_let RevalidateOrServe h s l = absurd s
  stale_where_let Revalidate h s l = absurd s
  stale_where_let Unavailable h s l = absurd s
  stale_where_let Fetch h s l = absurd s

-- an answer by directives is one by equal ones
pub Answers-at : (kind : Kind) (asks others tells more : Directives) (freshness : Freshness) (a : Decision)
    → asks ≡ others → tells ≡ more → Answers kind asks tells freshness a → Answers kind others more freshness a
Answers-at kind asks others tells more freshness a e f h = rw f at (rw e at h)

-- the answer by a lifetime that is stated, at any name of that lifetime
by_stated : (kind : Kind) (request response : LineMap) (times : Times) (a : Decision) (stated : Option ℕ)
    (d : DecidesMatched kind request response times a) → d.stated ≡ stated
    → Answers kind (directed request) (directed response) (freshness_at stated times response) a
by_stated kind request response times a stated d e = rw e at d.answers

one_matched : (kind : Kind) (request response : LineMap) (times : Times) (a b : Decision)
    → DecidesMatched kind request response times a → DecidesMatched kind request response times b → a ≡ b
one_matched kind request response times a b h k =
    let same = one_lifetime kind times.response response h.stated k.stated h.lifetime k.lifetime in
    one_answer kind (directed request) (directed response) (freshness_at k.stated times response) a b
    (by_stated _ _ _ _ a _ h same) k.answers

-- ---- time goes on

grows : (age response now later : ℕ) → now ≤ later
    → min (age + (now - response)) greatest ≤ min (age + (later - response)) greatest
grows age response now later h = omega (arith, h)

pub age_grows : (times : Times) (later : ℕ) (response : LineMap) → times.now ≤ later
    → capped (age_at times response) ≤ capped (age_at (record times { now = later }) response)
age_grows times later response h = grows (corrected_initial_age times response) times.response times.now later h

young_before : (o : Option ℕ) (a b : ℕ) → a ≤ b → IfSome o (λ limit. b ≤ limit) → IfSome o (λ limit. a ≤ limit)
young_before None a b h k = tt
young_before (Some limit) a b h k = omega (arith, h, k)

left_before : (o : Option ℕ) (l a b : ℕ) → a ≤ b → IfSome o (λ least. b + least ≤ l) → IfSome o (λ least. a + least ≤ l)
left_before None l a b h k = tt
left_before (Some least) l a b h k = omega (arith, h, k)

stale_before : (o : Option ℕ) (l a b : ℕ) → a ≤ b → IsSomeAnd o (λ limit. b - l ≤ limit)
    → IsSomeAnd o (λ limit. a - l ≤ limit)
stale_before None l a b h k = k
stale_before (Some limit) l a b h k = omega (arith, h, k)

within_before : (o : Option ℕ) (l a b : ℕ) → a ≤ b → IfSome o (λ limit. b - l ≤ limit)
    → IfSome o (λ limit. a - l ≤ limit)
within_before None l a b h k = tt
within_before (Some limit) l a b h k = omega (arith, h, k)

module _ (kind : Kind) (asks tells : Directives) (l a b : ℕ) (h : a ≤ b) where
  servable_before : IsServable asks tells (record { lifetime = l; age = b })
      → IsServable asks tells (record { lifetime = l; age = a })
  servable_before k = (k.0, (young_before _ a b h k.1.0, left_before _ l a b h k.1.1))

  meanwhile_before : MayServeMeanwhile kind asks tells (record { lifetime = l; age = b })
      → MayServeMeanwhile kind asks tells (record { lifetime = l; age = a })
  meanwhile_before k = (
    k.0,
    stale_before tells.stale_while_revalidate l a b h k.1,
    (k.2.0, within_before asks.max_stale l a b h k.2.1),
  )

  good_before : IsGoodEnough kind asks tells (record { lifetime = l; age = b })
      → IsGoodEnough kind asks tells (record { lifetime = l; age = a })
  good_before k = (
    servable_before k.0,
    elim k.1 [
      | inl fresh ↦ inl (let below : b < l = fresh in omega (arith, h, below))
      | inr stale ↦ inr (elim stale [
        | inl meanwhile ↦ inl (meanwhile_before meanwhile)
        | inr taken ↦ inr (taken.0, stale_before asks.max_stale l a b h taken.1)
      ])
    ],
  )

module _ (kind : Kind) (request response : LineMap) (times : Times) (later : ℕ) where
  from_store_matched : (a b : Decision) → times.now ≤ later → DecidesMatched kind request response times a
      → DecidesMatched kind request response (record times { now = later }) b → IsFromStore b → IsFromStore a
  from_store_matched a b l h k s =
      let same = one_lifetime kind times.response response k.stated h.stated k.lifetime h.lifetime in
      let after = by_stated _ _ _ _ b _ k same in
      let good = good_enough kind (directed request) (directed response)
      (freshness_at h.stated (record times { now = later }) response) b after s in
      from_store kind (directed request) (directed response) (freshness_at h.stated times response) a h.answers
      (good_before kind (directed request) (directed response) (unwrap_or h.stated 0)
      (capped (age_at times response)) (capped (age_at (record times { now = later }) response))
      (age_grows times later response l) good)

  fresh_matched : (a : Decision) → times.now ≤ later → DecidesMatched kind request response times a
      → DecidesMatched kind request response (record times { now = later }) Serve → a ≡ Serve
  fresh_matched a l h k =
      let same = one_lifetime kind times.response response k.stated h.stated k.lifetime h.lifetime in
      let after = by_stated _ _ _ _ _ _ k same in
      let grown = age_grows times later response l in
      let below : capped (age_at (record times { now = later }) response) < unwrap_or h.stated 0 = after.1 in
      let fresh : capped (age_at times response) < unwrap_or h.stated 0 = omega (arith, grown, below) in
      let before : Answers kind (directed request) (directed response) (freshness_at h.stated times response) Serve = (
        servable_before kind (directed request) (directed response) (unwrap_or h.stated 0)
            (capped (age_at times response)) (capped (age_at (record times { now = later }) response)) grown after.0,
        fresh,
      ) in
      one_answer kind (directed request) (directed response) (freshness_at h.stated times response) a Serve h.answers
      before

-- ---- with the request that the response answered

pub one_unstored_answer : (request : Request) (a b : Decision) → AnswersUnstored request a → AnswersUnstored request b
    → a ≡ b
one_unstored_answer request Fetch Fetch h k = refl
one_unstored_answer request Fetch Unavailable h k = let no = h k.0 in let yes = k.1 in absurd (cc (no, yes))
one_unstored_answer request Unavailable Fetch h k = let no = k h.0 in let yes = h.1 in absurd (cc (no, yes))
one_unstored_answer request Unavailable Unavailable h k = refl
one_unstored_answer request Serve b h k = absurd h
one_unstored_answer request ServeAndRevalidate b h k = absurd h
one_unstored_answer request ServeStale b h k = absurd h
one_unstored_answer request RevalidateOrServe b h k = absurd h
one_unstored_answer request Revalidate b h k = absurd h
one_unstored_answer request Fetch Serve h k = absurd k
one_unstored_answer request Fetch ServeAndRevalidate h k = absurd k
one_unstored_answer request Fetch ServeStale h k = absurd k
one_unstored_answer request Fetch RevalidateOrServe h k = absurd k
one_unstored_answer request Fetch Revalidate h k = absurd k
one_unstored_answer request Unavailable Serve h k = absurd k
one_unstored_answer request Unavailable ServeAndRevalidate h k = absurd k
one_unstored_answer request Unavailable ServeStale h k = absurd k
one_unstored_answer request Unavailable RevalidateOrServe h k = absurd k
one_unstored_answer request Unavailable Revalidate h k = absurd k

pub unstored_not_from_store : (request : Request) (a : Decision) → AnswersUnstored request a → ¬ (IsFromStore a)
unstored_not_from_store request Serve h s = h
unstored_not_from_store request ServeAndRevalidate h s = h
unstored_not_from_store request ServeStale h s = h
unstored_not_from_store request RevalidateOrServe h s = s
unstored_not_from_store request Revalidate h s = s
unstored_not_from_store request Unavailable h s = s
unstored_not_from_store request Fetch h s = s

module _ (kind : Kind) (stored request : Request) (response : LineMap) where
  pub one_decision : (times : Times) (a b : Decision) → Decides kind stored request response times a
      → Decides kind stored request response times b → a ≡ b
  one_decision times a b (inl h) (inl k) = one_matched kind request.fields response times a b h.1 k.1
  one_decision times a b (inl h) (inr k) = absurd (k.0 h.0)
  one_decision times a b (inr h) (inl k) = absurd (h.0 k.0)
  one_decision times a b (inr h) (inr k) = one_unstored_answer request a b h.1 k.1

  pub one_decision_by : (freshness : Freshness) (a b : Decision) → DecidesBy kind stored request response freshness a
      → DecidesBy kind stored request response freshness b → a ≡ b
  one_decision_by freshness a b (inl h) (inl k) =
      one_answer kind (directed request.fields) (directed response) freshness a b h.1 k.1
  one_decision_by freshness a b (inl h) (inr k) = absurd (k.0 h.0)
  one_decision_by freshness a b (inr h) (inl k) = absurd (h.0 k.0)
  one_decision_by freshness a b (inr h) (inr k) = one_unstored_answer request a b h.1 k.1

  pub from_store_before : (times : Times) (later : ℕ) (a b : Decision) → times.now ≤ later
      → Decides kind stored request response times a
      → Decides kind stored request response (record times { now = later }) b → IsFromStore b → IsFromStore a
  from_store_before times later a b l (inl h) (inl k) s =
      from_store_matched kind request.fields response times later a b l h.1 k.1 s
  from_store_before times later a b l (inr h) (inl k) s = absurd (h.0 k.0)
  from_store_before times later a b l h (inr k) s = absurd (unstored_not_from_store request b k.1 s)

  pub fresh_before : (times : Times) (later : ℕ) (a : Decision) → times.now ≤ later
      → Decides kind stored request response times a
      → Decides kind stored request response (record times { now = later }) Serve → a ≡ Serve
  fresh_before times later a l (inl h) (inl k) = fresh_matched kind request.fields response times later a l h.1 k.1
  fresh_before times later a l (inr h) (inl k) = absurd (h.0 k.0)
  fresh_before times later a l h (inr k) = absurd k.1
