-- Each response has a lifetime, and each request a decision.
use Rattle.std.proofs.Common.{◌≡◌, ℕ, ◌+◌, ◌-◌, ◌/◌, ◌≤◌, Bool, true, false, List, Option, Some, None, codes, refl, ap}
use Rattle.std.{proofs.Common.{inl, inr}, specs.Prelude.{IfSome, IsSomeAnd, IsTrue, length}}
use Rattle.{http.specs.Method.{is_among, safe_methods}, http_header.specs.Token.{IsToken, is_token_byte}}
use Rattle.{headers.specs.{LineMap.LineMap, Lines.Line}, rfc_fields.specs.{Members.field_members, Scan.Member}}
use Rattle.{rfc_fields.specs.Scan.Member.{Whole, Malformed}, decide_preconditions.specs.Preconditions.IsGetOrHead}
use Rattle.cache_policy.specs.Decisions.{Answers, AnswersUnstored, Decides, DecidesBy, IsFresh, IsGoodEnough}
use Rattle.cache_policy.specs.Decisions.{IsServable, MayServeMeanwhile, MayServeOnError, MayServeStale, MustBeFresh}
use Rattle.cache_policy.specs.{Decisions.{freshness_at, staleness}, Requests.{AllowsMethod, IsSafe, Request}}
use Rattle.cache_policy.specs.Varying.{Agree, AreSame, HaveSameMembers, SayTheSame, Suits}
use Rattle.cache_policy.specs.declared.decision.Decision.{Decision, TheVariants.{Serve, ServeAndRevalidate, ServeStale}}
use Rattle.cache_policy.specs.declared.decision.Decision.TheVariants.{Revalidate, RevalidateOrServe, Unavailable, Fetch}
use Rattle.cache_policy.{specs.declared.decision.Freshness.Freshness, proofs.DecidableLemmas.{IsDecidable, decide_All}}
use Rattle.cache_policy.proofs.DecidableLemmas.{decide_Bool, decide_IfSome, decide_IsSome, decide_IsSomeAnd}
use Rattle.cache_policy.proofs.DecidableLemmas.{decide_both, decide_bytes, decide_either, decide_five, decide_if}
use Rattle.cache_policy.proofs.DecidableLemmas.{decide_le, decide_list, decide_lt, decide_not, decide_three}
use Rattle.cache_fields.specs.{Directives.directed, declared.{age.Times.Times, directives.Directives.Directives}}
use Rattle.cache_fields.specs.{declared.kind.Kind.{Kind, TheVariants.{Shared, Private}}, Fields.{IsPresent, capped}}
use Rattle.cache_fields.specs.{Fields.{date_in, dated}, Freshness.{HasHeuristic, HasLifetime, MayGuess, by_itself}}
use Rattle.cache_fields.specs.Freshness.{StatesNoAge, is_heuristic, shared_age}

-- ---- lifetimes

module _ (kind : Kind) (received : ℕ) (response : LineMap) where
  by_expires : StatesNoAge kind (directed response) → IsDecidable (IsPresent (codes "expires") response)
      → (stated : Option ℕ) × HasLifetime kind received response stated
  by_expires none (inr absent) = (None, (none, absent))
  by_expires none (inl here) = by (date_in received (codes "expires") response) refl
    where
      by : (o : Option ℕ) → date_in received (codes "expires") response ≡ o
          → (stated : Option ℕ) × HasLifetime kind received response stated
      by None e = (Some 0, inr (none, here, rw e refl))
      by (Some expires) e = (Some (expires - dated received response), inr (none, here, rw e refl))

  some_stated : (shared max : Option ℕ) → shared_age kind (directed response) ≡ shared
      → (directed response).max_age ≡ max → (stated : Option ℕ) × HasLifetime kind received response stated
  some_stated (Some seconds) max e f = (Some seconds, inl (inl e))
  some_stated None (Some seconds) e f = (Some seconds, inl (inr (e, f)))
  some_stated None None e f = by_expires (e, f) (decide_lt 0 (length (response (codes "expires"))))

  pub some_lifetime : (stated : Option ℕ) × HasLifetime kind received response stated
  some_lifetime = some_stated (shared_age kind (directed response)) (directed response).max_age refl refl

module _ (kind : Kind) (status received : ℕ) (response : LineMap) where
  guess_or_not : (stated : Option ℕ) → HasLifetime kind received response stated
      → IsDecidable (HasLifetime kind received response None)
  guess_or_not None h = inl h
  guess_or_not (Some n) (inl (inl e)) = inr (λ k. absurd (cc (e, k.0.0)))
  guess_or_not (Some n) (inl (inr e)) = inr (λ k. absurd (cc (e.1, k.0.1)))
  guess_or_not (Some n) (inr e) = inr (λ k. k.1 e.1)

  pub some_heuristic : (guess : Option ℕ) × HasHeuristic kind status received response guess
  some_heuristic = by (date_in received (codes "last-modified") response) refl
      (decide_both (guess_or_not (some_lifetime kind received response).0 (some_lifetime kind received response).1)
      (decide_either (decide_Bool (is_heuristic status) true) (decide_Bool (directed response).public true)))
    where
      by : (o : Option ℕ) → date_in received (codes "last-modified") response ≡ o
          → IsDecidable (MayGuess kind status received (by_itself response) response)
          → (guess : Option ℕ) × HasHeuristic kind status received response guess
      by o e (inr n) = (None, λ may. absurd (n may))
      by None e (inl may) = (None, λ _. e)
      by (Some modified) e (inl may) =
          (Some (capped (dated received response - modified) / 10), (may, (modified, e, refl)))

-- ---- answers

decide_must : (kind : Kind) (tells : Directives) → IsDecidable (MustBeFresh kind tells)
decide_must Private tells = decide_either (decide_Bool _ _) (inr (λ h. absurd h))
decide_must Shared tells = decide_either (decide_Bool _ _) (decide_either (decide_IsSome _) (decide_Bool _ _))

module _ (kind : Kind) (asks tells : Directives) (freshness : Freshness) where
  decide_servable : IsDecidable (IsServable asks tells freshness)
  decide_servable = decide_both (decide_both (decide_Bool _ _) (decide_Bool _ _)) (decide_both
      (decide_IfSome _ (λ limit. freshness.age ≤ limit) (λ limit. decide_le _ _))
      (decide_IfSome _ (λ least. freshness.age + least ≤ freshness.lifetime) (λ least. decide_le _ _)))

  decide_within : (o : Option ℕ) → IsDecidable (IsSomeAnd o (λ limit. staleness freshness ≤ limit))
  decide_within o = decide_IsSomeAnd o (λ limit. staleness freshness ≤ limit) (λ limit. decide_le _ _)

  decide_if_within : (o : Option ℕ) → IsDecidable (IfSome o (λ limit. staleness freshness ≤ limit))
  decide_if_within o = decide_IfSome o (λ limit. staleness freshness ≤ limit) (λ limit. decide_le _ _)

  decide_meanwhile : IsDecidable (MayServeMeanwhile kind asks tells freshness)
  decide_meanwhile = decide_three (decide_not (decide_must _ _)) (decide_within tells.stale_while_revalidate)
      (decide_both (decide_if (decide_IsSome _) (decide_IsSome _)) (decide_if_within asks.max_stale))

  decide_stale : IsDecidable (MayServeStale kind asks tells freshness)
  decide_stale = decide_both (decide_not (decide_must kind tells)) (decide_within asks.max_stale)

  decide_on_error : IsDecidable (MayServeOnError kind asks tells freshness)
  decide_on_error = decide_five (decide_both (decide_Bool _ _) (decide_Bool _ _)) (decide_not (decide_must _ _))
      (decide_either (decide_IsSome _) (decide_IsSome _)) (decide_if_within asks.stale_if_error)
      (decide_if_within tells.stale_if_error)

  some_unserved : (¬ (IsGoodEnough kind asks tells freshness)) → (b : Bool) → asks.only_if_cached ≡ b
      → IsDecidable (MayServeOnError kind asks tells freshness)
      → (decision : Decision) × Answers kind asks tells freshness decision
  some_unserved n true e o = (Unavailable, (n, e))
  some_unserved n false e (inl may) = (RevalidateOrServe, (n, e, may))
  some_unserved n false e (inr not) = (Revalidate, (n, e, not))

  unserved : (¬ (IsGoodEnough kind asks tells freshness))
      → (decision : Decision) × Answers kind asks tells freshness decision
  unserved n = some_unserved n asks.only_if_cached refl decide_on_error

  some_served : IsServable asks tells freshness → IsDecidable (IsFresh freshness)
      → IsDecidable (MayServeMeanwhile kind asks tells freshness)
      → IsDecidable (MayServeStale kind asks tells freshness)
      → (decision : Decision) × Answers kind asks tells freshness decision
  some_served s (inl fresh) m t = (Serve, (s, fresh))
  some_served s (inr stale) (inl meanwhile) t = (ServeAndRevalidate, (s, stale, meanwhile))
  some_served s (inr stale) (inr n) (inl taken) = (ServeStale, (s, stale, n, taken))
  some_served s (inr stale) (inr n) (inr m) = unserved (λ good. elim good.1 [
    | inl fresh ↦ stale fresh
    | inr rest ↦ elim rest [ inl meanwhile ↦ n meanwhile | inr taken ↦ m taken ]
  ])

  pub some_answer : (decision : Decision) × Answers kind asks tells freshness decision
  some_answer = elim decide_servable [
    | inl s ↦ some_served s (decide_lt freshness.age freshness.lifetime) decide_meanwhile decide_stale
    | inr n ↦ unserved (λ good. n good.0)
  ]

-- ---- which requests a response suits

decide_member : (m n : Member) → IsDecidable (m ≡ n)
decide_member (Whole s) (Whole t) = elim (decide_bytes s t) [
  | inl e ↦ inl (ap (λ (u : List ℕ). Whole u) e)
  | inr n ↦ inr (λ e. let f : s ≡ t = cc e in n f)
]
decide_member (Whole s) Malformed = inr (λ e. absurd (cc e))
decide_member Malformed (Whole t) = inr (λ e. absurd (cc e))
decide_member Malformed Malformed = inl refl

decide_same : (members others : List Member) → IsDecidable (AreSame members others)
decide_same members others = decide_both (decide_Bool _ _) (decide_list decide_member members others)

decide_have_same : (pairs : Bool) (lines others : List Line) → IsDecidable (HaveSameMembers pairs lines others)
decide_have_same pairs lines others = elim (decide_three (decide_lt 0 (length lines)) (decide_lt 0 (length others))
    (decide_same (field_members pairs lines) (field_members pairs others))) [
      | inl h ↦ inl (record { present = h.0; also_present = h.1; same = h.2 })
      | inr n ↦ inr (λ h. n (h.present, h.also_present, h.same))
    ]

decide_say : (name : List ℕ) (lines others : List Line) → IsDecidable (SayTheSame name lines others)
decide_say name lines others =
    decide_either (decide_list decide_bytes lines others) (decide_both (decide_Bool _ _) (decide_have_same _ _ _))

decide_token : (text : List ℕ) → IsDecidable (IsToken text)
decide_token text = decide_both (decide_lt 0 _) (decide_All (λ b. IsTrue (is_token_byte b)) (λ b. decide_Bool _ _) text)

decide_agree : (stored request : LineMap) (member : Member) → IsDecidable (Agree stored request member)
decide_agree stored request (Whole name) =
    decide_three (decide_token _) (decide_not (decide_bytes _ _)) (decide_say _ _ _)
decide_agree stored request Malformed = inr (λ h. absurd h)

decide_get_or_head : (method : List ℕ) → IsDecidable (IsGetOrHead method)
decide_get_or_head method = decide_either (decide_bytes method (codes "GET")) (decide_bytes method (codes "HEAD"))

decide_suits : (stored request : Request) (response : LineMap) → IsDecidable (Suits stored request response)
decide_suits stored request response = elim (decide_both allowed
    (decide_All (Agree stored.fields request.fields) (decide_agree stored.fields request.fields)
    (field_members true (response (codes "vary"))))) [
      | inl h ↦ inl (record { method = h.0; fields = h.1 })
      | inr n ↦ inr (λ h. n (h.method, h.fields))
    ]
  where
    allowed : IsDecidable (AllowsMethod stored.method request.method)
    allowed = decide_either (decide_both (decide_bytes stored.method (codes "GET")) (decide_get_or_head request.method))
        (decide_both (decide_bytes stored.method (codes "HEAD")) (decide_bytes request.method (codes "HEAD")))

-- ---- decisions

pub some_unstored : (request : Request) → (decision : Decision) × AnswersUnstored request decision
some_unstored request = elim (decide_both (decide_Bool (is_among safe_methods request.method) true)
    (decide_Bool (directed request.fields).only_if_cached true)) [
      | inl h ↦ (Unavailable, h)
      | inr n ↦ (Fetch, λ safe. by safe n (directed request.fields).only_if_cached refl)
    ]
  where
    by : IsSafe request.method → (¬ (IsSafe request.method × ((directed request.fields).only_if_cached ≡ true)))
        → (b : Bool) → (directed request.fields).only_if_cached ≡ b → (directed request.fields).only_if_cached ≡ false
    by safe n true e = absurd (n (safe, e))
    by safe n false e = e

module _ (kind : Kind) (stored request : Request) (response : LineMap) where
  pub some_decision_by : (freshness : Freshness)
      → (decision : Decision) × DecidesBy kind stored request response freshness decision
  some_decision_by freshness = elim (decide_suits stored request response) [
    | inl suits ↦
        let a = some_answer kind (directed request.fields) (directed response) freshness in (a.0, inl (suits, a.1))
    | inr other ↦ let a = some_unstored request in (a.0, inr (other, a.1))
  ]

  pub some_decision : (times : Times) → (decision : Decision) × Decides kind stored request response times decision
  some_decision times = elim (decide_suits stored request response) [
    | inl suits ↦
        let l = some_lifetime kind times.response response in
        let a = some_answer kind (directed request.fields) (directed response) (freshness_at l.0 times response) in
        (a.0, inl (suits, record { stated = l.0; lifetime = l.1; answers = a.1 }))
    | inr other ↦ let a = some_unstored request in (a.0, inr (other, a.1))
  ]
