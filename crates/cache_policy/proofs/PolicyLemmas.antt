-- What follows from the options of a policy.
use Rattle.std.proofs.{Common.{◌≡◌, ◌∙◌, Bool, true, false, ◌≤◌, inl, inr, sym, refl, ap, cond}, lemmas.Bool.le-ltb}
use Rattle.{std.specs.Prelude.{◌⊎◌, ◌&&◌, nat_lt, None}, headers.specs.LineMap.LineMap}
use Rattle.cache_policy.specs.Decisions.{Answers, Decides, IsFromStore, IsServedMeanwhile, IsTakenStale}
use Rattle.cache_policy.specs.{Decisions.{MayComeFromStore, MustBeFresh, counted}, Policies.DecidesByUnder}
use Rattle.cache_policy.specs.{Policies.{DecidesUnder, Policy, asks, plain, tells}, Requests.Request}
use Rattle.cache_policy.specs.declared.decision.Decision.{Decision, TheVariants.{Serve, ServeAndRevalidate, ServeStale}}
use Rattle.cache_policy.specs.declared.decision.Decision.TheVariants.{Revalidate, RevalidateOrServe, Unavailable, Fetch}
use Rattle.cache_policy.{specs.declared.decision.Freshness.Freshness, proofs.DecisionLemmas.stale_where_let}
use Rattle.{cache_policy.proofs.DecisionLemmas.unstored_not_from_store, cache_fields.specs.Directives.directed}
use Rattle.cache_fields.specs.declared.{age.Times.Times, directives.Directives.Directives, kind.Kind.Kind}

-- ---- no options

pub plain_decides : (kind : Kind) (stored request : Request) (response : LineMap) (times : Times) (decision : Decision)
    → DecidesUnder (plain kind) stored request response times decision
    → Decides kind stored request response times decision
plain_decides kind stored request response times decision (inl h) =
    inl (h.0, record { stated = h.1.stated; lifetime = h.1.lifetime; answers = h.1.answers })
plain_decides kind stored request response times decision (inr h) = inr h

-- ---- `immutable`

both_false : (a b : Bool) → (a && b && false) ≡ false
both_false true true = refl
both_false true false = refl
both_false false b = refl

pub counted-stale : (immutable : Bool) (asks tells : Directives) (freshness : Freshness)
    → freshness.lifetime ≤ freshness.age → counted immutable asks tells freshness ≡ asks
counted-stale immutable asks tells freshness h =
    ap (λ (v : Bool). cond (immutable && tells.immutable && v) (record asks { max_age = None }) asks)
    (le-ltb freshness.age freshness.lifetime h)
    ∙ ap (λ (v : Bool). cond v (record asks { max_age = None }) asks) (both_false immutable tells.immutable)

-- the other directives of a request count as ever
pub counted-no_cache : (immutable : Bool) (asks tells : Directives) (freshness : Freshness)
    → (counted immutable asks tells freshness).no_cache ≡ asks.no_cache
counted-no_cache immutable asks tells freshness =
    by (immutable && tells.immutable && nat_lt freshness.age freshness.lifetime)
  where
    by : (v : Bool) → (cond v (record asks { max_age = None }) asks).no_cache ≡ asks.no_cache
    by true = refl
    by false = refl

module _ (policy : Policy) (stored request : Request) (response : LineMap) (freshness : Freshness) where
  pub stale_where_allowed : (decision : Decision) → DecidesByUnder policy stored request response freshness decision
      → IsFromStore decision → freshness.lifetime ≤ freshness.age
      → (¬ (MustBeFresh policy.kind (tells policy response)))
      × (IsTakenStale (directed request.fields) freshness ⊎ IsServedMeanwhile (tells policy response) freshness)
  stale_where_allowed decision (inl h) s l =
      stale_where_let policy.kind (directed request.fields) (tells policy response) freshness decision
      (rw (counted-stale policy.immutable (directed request.fields) (tells policy response) freshness l) at h.1) s l
  stale_where_allowed decision (inr h) s l = absurd (unstored_not_from_store request decision h.1 s)

  usable : (d : Directives) (decision : Decision) → Answers policy.kind d (tells policy response) freshness decision
      → MayComeFromStore decision → (d.no_cache ≡ false) × ((tells policy response).no_cache ≡ false)
  usable d Serve h m = h.0.0
  usable d ServeAndRevalidate h m = h.0.0
  usable d ServeStale h m = h.0.0
  usable d RevalidateOrServe h m = h.2.0
  usable d Revalidate h (inl m) = absurd m
  usable d Revalidate h (inr m) = absurd (cc m)
  usable d Unavailable h (inl m) = absurd m
  usable d Unavailable h (inr m) = absurd (cc m)
  usable d Fetch h m = absurd h

  unstored_never : (decision : Decision)
      → DecidesByUnder policy stored request response freshness decision → MayComeFromStore decision
      → ((directed request.fields).no_cache ≡ false) × ((tells policy response).no_cache ≡ false)
  unstored_never decision (inl h) m =
      let both = usable (asks policy request.fields response freshness) decision h.1 m in (
        sym (counted-no_cache policy.immutable (directed request.fields) (tells policy response) freshness) ∙ both.0,
        both.1,
      )
  unstored_never decision (inr h) (inl m) = absurd (unstored_not_from_store request decision h.1 m)
  unstored_never decision (inr h) (inr m) = absurd (let k = rw m at h.1 in k)

  pub no_cache_asks : (decision : Decision)
      → ((directed request.fields).no_cache ≡ true) ⊎ ((tells policy response).no_cache ≡ true)
      → DecidesByUnder policy stored request response freshness decision → ¬ (MayComeFromStore decision)
  no_cache_asks decision (inl e) h m = let none = (unstored_never decision h m).0 in absurd (cc (e, none))
  no_cache_asks decision (inr e) h m = let none = (unstored_never decision h m).1 in absurd (cc (e, none))
