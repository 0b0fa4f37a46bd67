-- What a cache does with a request that a stored response could answer (RFC 9111, section 4, and RFC 5861).
use Rattle.std.specs.Prelude.{◌≡◌, ◌⊎◌, ⊤, ℕ, ◌+◌, ◌-◌, ◌<◌, ◌≤◌, Bool, true, false, ◌&&◌, nat_lt, Option, None, IfSome}
use Rattle.std.specs.Prelude.{IsSome, if◌then◌else◌, IsSomeAnd, unwrap_or}
use Rattle.{headers.specs.LineMap.LineMap, cache_fields.specs.{Age.age_at, Directives.directed, Fields.capped}}
use Rattle.cache_fields.specs.{Freshness.HasLifetime, declared.{age.Times.Times, directives.Directives.Directives}}
use Rattle.cache_fields.specs.declared.kind.Kind.{Kind, TheVariants.{Shared, Private}}
use Rattle.cache_policy.specs.{Requests.{IsSafe, Request}, Varying.Suits, declared.decision.Decision.Decision}
use Rattle.cache_policy.specs.declared.decision.Decision.TheVariants.{Serve, ServeAndRevalidate, ServeStale, Revalidate}
use Rattle.cache_policy.specs.declared.decision.Decision.TheVariants.{RevalidateOrServe, Unavailable, Fetch}
use Rattle.cache_policy.specs.declared.decision.Freshness.{Freshness}

-- the response is fresh (section 4.2)
abbrev pub IsFresh : Freshness → Type 0
IsFresh freshness = freshness.age < freshness.lifetime

-- for how long it has been stale
abbrev pub staleness : Freshness → ℕ
staleness freshness = freshness.age - freshness.lifetime

-- neither the request (section 5.2.1.4) nor the response (section 5.2.2.4) says `no-cache`
abbrev pub IsUsable : Directives → Directives → Type 0
IsUsable asks tells = (asks.no_cache ≡ false) × (tells.no_cache ≡ false)

-- The request takes a response of this age (`max-age`, section 5.2.1.1) that stays fresh for so long (`min-fresh`,
-- section 5.2.1.3).
abbrev pub IsWanted : Directives → Freshness → Type 0
IsWanted asks freshness = IfSome asks.max_age (λ limit. freshness.age ≤ limit)
    × IfSome asks.min_fresh (λ least. freshness.age + least ≤ freshness.lifetime)

abbrev pub IsServable : Directives → Directives → Freshness → Type 0
IsServable asks tells freshness = IsUsable asks tells × IsWanted asks freshness

-- in a shared cache `s-maxage` (section 5.2.2.10) and `proxy-revalidate` (section 5.2.2.8) forbid a stale answer
abbrev pub MustBeFreshShared : Kind → Directives → Type 0
MustBeFreshShared Private tells = ⊥
MustBeFreshShared Shared tells = IsSome tells.s_max_age ⊎ (tells.proxy_revalidate ≡ true)

-- the response forbids that it is served stale (section 4.2.4)
abbrev pub MustBeFresh : Kind → Directives → Type 0
MustBeFresh kind tells = (tells.must_revalidate ≡ true) ⊎ MustBeFreshShared kind tells

-- the request takes a response that is stale for so long (`max-stale`, section 5.2.1.2)
abbrev pub IsTakenStale : Directives → Freshness → Type 0
IsTakenStale asks freshness = IsSomeAnd asks.max_stale (λ limit. staleness freshness ≤ limit)

-- the response may be served while it is revalidated (`stale-while-revalidate`, RFC 5861, section 3)
abbrev pub IsServedMeanwhile : Directives → Freshness → Type 0
IsServedMeanwhile tells freshness =
    IsSomeAnd tells.stale_while_revalidate (λ limit. staleness freshness ≤ limit)

-- the request says nothing against a response that is stale for so long: beside `max-age` it wishes for none unless
-- `max-stale` is there (section 5.2.1.1)
abbrev pub IsNotRefused : Directives → Freshness → Type 0
IsNotRefused asks freshness =
    (IsSome asks.max_age → IsSome asks.max_stale) × IfSome asks.max_stale (λ limit. staleness freshness ≤ limit)

-- the response is served though it is stale, and is revalidated meanwhile
abbrev pub MayServeMeanwhile : Kind → Directives → Directives → Freshness → Type 0
MayServeMeanwhile kind asks tells freshness =
    (¬ (MustBeFresh kind tells)) × IsServedMeanwhile tells freshness × IsNotRefused asks freshness

-- the response is served though it is stale
abbrev pub MayServeStale : Kind → Directives → Directives → Freshness → Type 0
MayServeStale kind asks tells freshness = (¬ (MustBeFresh kind tells)) × IsTakenStale asks freshness

-- Request or response says `stale-if-error`, and neither sets a limit that is passed (RFC 5861, section 4). The
-- limits of freshness in the request don't count then.
abbrev pub MayServeOnError : Kind → Directives → Directives → Freshness → Type 0
MayServeOnError kind asks tells freshness = IsUsable asks tells × (¬ (MustBeFresh kind tells))
    × (IsSome asks.stale_if_error ⊎ IsSome tells.stale_if_error)
    × IfSome asks.stale_if_error (λ limit. staleness freshness ≤ limit)
    × IfSome tells.stale_if_error (λ limit. staleness freshness ≤ limit)

module _ (kind : Kind) (asks tells : Directives) (freshness : Freshness) where
  -- the stored response answers the request without waiting for the origin
  abbrev pub IsGoodEnough : Type 0
  IsGoodEnough = IsServable asks tells freshness
      × (IsFresh freshness ⊎ MayServeMeanwhile kind asks tells freshness ⊎ MayServeStale kind asks tells freshness)

  -- Which facts give each answer.
  abbrev pub Answers : Decision → Type 0
  Answers Serve = IsServable asks tells freshness × IsFresh freshness
  Answers ServeAndRevalidate =
      IsServable asks tells freshness × (¬ (IsFresh freshness)) × MayServeMeanwhile kind asks tells freshness
  Answers ServeStale =
      IsServable asks tells freshness × (¬ (IsFresh freshness)) × (¬ (MayServeMeanwhile kind asks tells freshness))
      × MayServeStale kind asks tells freshness
  Answers RevalidateOrServe =
      (¬ IsGoodEnough) × (asks.only_if_cached ≡ false) × MayServeOnError kind asks tells freshness
  Answers Revalidate =
      (¬ IsGoodEnough) × (asks.only_if_cached ≡ false) × ¬ (MayServeOnError kind asks tells freshness)
  Answers Unavailable = (¬ IsGoodEnough) × (asks.only_if_cached ≡ true)
  Answers Fetch = ⊥

-- The directives of a request that count for a stored response, in a cache in which `immutable` does: `max-age` doesn't
-- count while a response with `immutable` is fresh (RFC 8246, section 2). A stale one is as any other.
abbrev pub counted : Bool → Directives → Directives → Freshness → Directives
counted immutable asks tells freshness =
    if immutable && tells.immutable && nat_lt freshness.age freshness.lifetime then record asks { max_age = None }
    else asks

-- how long the response is fresh, 0 if nothing is stated, and how old it is
abbrev pub freshness_at : Option ℕ → Times → LineMap → Freshness
freshness_at stated times response =
    record { lifetime = unwrap_or stated 0; age = capped (age_at times response) }

-- the answer by the lifetime that is stated, if the response suits the request
pub record DecidesMatched (kind : Kind) (request response : LineMap) (times : Times) (decision : Decision)
    : Type 0 where
  pub stated : Option ℕ
  pub lifetime : HasLifetime kind times.response response stated
  pub answers : Answers kind (directed request) (directed response) (freshness_at stated times response) decision

-- Which facts give each answer if no stored response suits the request: the origin answers, unless the request says
-- `only-if-cached` (section 5.2.1.7). A request whose method isn't safe is written through to the origin in any case
-- (section 4).
abbrev pub AnswersUnstored : Request → Decision → Type 0
AnswersUnstored request Fetch = IsSafe request.method → (directed request.fields).only_if_cached ≡ false
AnswersUnstored request Unavailable = IsSafe request.method × ((directed request.fields).only_if_cached ≡ true)
AnswersUnstored request Serve = ⊥
AnswersUnstored request ServeAndRevalidate = ⊥
AnswersUnstored request ServeStale = ⊥
AnswersUnstored request RevalidateOrServe = ⊥
AnswersUnstored request Revalidate = ⊥

-- the answer by a response that answered the stored request, which suits the new one or doesn't
abbrev pub Decides : Kind → Request → Request → LineMap → Times → Decision → Type 0
Decides kind stored request response times decision =
    (Suits stored request response × DecidesMatched kind request.fields response times decision)
    ⊎ ((¬ (Suits stored request response)) × AnswersUnstored request decision)

-- the same by a lifetime and an age
abbrev pub DecidesBy : Kind → Request → Request → LineMap → Freshness → Decision → Type 0
DecidesBy kind stored request response freshness decision =
    (Suits stored request response × Answers kind (directed request.fields) (directed response) freshness decision)
    ⊎ ((¬ (Suits stored request response)) × AnswersUnstored request decision)

-- the answer is the stored response, without waiting
abbrev pub IsFromStore : Decision → Type 0
IsFromStore Serve = ⊤
IsFromStore ServeAndRevalidate = ⊤
IsFromStore ServeStale = ⊤
IsFromStore RevalidateOrServe = ⊥
IsFromStore Revalidate = ⊥
IsFromStore Unavailable = ⊥
IsFromStore Fetch = ⊥

-- the answer is the stored response, without waiting or if the origin fails
abbrev pub MayComeFromStore : Decision → Type 0
MayComeFromStore decision = IsFromStore decision ⊎ (decision ≡ RevalidateOrServe)
