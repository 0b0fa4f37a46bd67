-- What a cache may store (RFC 9111, section 3).
use Rattle.std.specs.Prelude.{◌≡◌, ◌≢◌, ◌⊎◌, ⊤, ℕ, ◌≤◌, true, false, IsSome, codes}
use Rattle.{headers.specs.LineMap.LineMap, cache_fields.specs.{Directives.directed, Fields.IsPresent}}
use Rattle.cache_fields.specs.declared.{directives.Directives.Directives, governing.Governing.Governing, kind.Kind.Kind}
use Rattle.cache_fields.specs.{declared.kind.Kind.TheVariants.{Shared, Private}, Freshness.{HasExpires, IsHeuristic}}
use Rattle.{cache_fields.specs.Freshness.by_itself, decide_preconditions.specs.Preconditions.IsGetOrHead}
use Rattle.cache_policy.specs.Requests.{Request}

-- The status is final, the response is no part of another one, and the cache understands the status if
-- `must-understand` is there. It understands those that are heuristically cacheable.
abbrev pub IsStatusStored : ℕ → Directives → Type 0
IsStatusStored status tells =
    (200 ≤ status) × (status ≢ 206) × (status ≢ 304) × (tells.must_understand ≡ true → IsHeuristic status)

-- `no-store` isn't there, or there is `must-understand` too, for caches that don't understand the status
-- (section 5.2.2.3)
abbrev pub IsStorable : Directives → Type 0
IsStorable tells = (tells.no_store ≡ false) ⊎ (tells.must_understand ≡ true)

-- the response may answer a request without Authorization though it answered one with it (section 3.5)
abbrev pub IsOpen : Directives → Type 0
IsOpen tells = (tells.must_revalidate ≡ true) ⊎ (tells.public ≡ true) ⊎ IsSome tells.s_max_age

-- a private cache may keep any response; a shared one none that is `private`, and none to a request with
-- Authorization unless it is open
abbrev pub IsShareable : Kind → LineMap → Directives → Type 0
IsShareable Private request tells = ⊤
IsShareable Shared request tells =
    (tells.private ≡ false) × (IsPresent (codes "authorization") request → IsOpen tells)

-- what counts in a cache of this kind alone: `private` in a private cache, and `s-maxage` in a shared one
abbrev pub IsMarkedFor : Kind → Directives → Type 0
IsMarkedFor Private tells = tells.private ≡ true
IsMarkedFor Shared tells = IsSome tells.s_max_age

-- something in the response marks it as one to store
abbrev pub IsSuited : Kind → ℕ → Governing → LineMap → Type 0
IsSuited kind status by response =
    (by.directives.public ≡ true) ⊎ IsMarkedFor kind by.directives ⊎ HasExpires by.by_expires response
    ⊎ IsSome by.directives.max_age ⊎ IsHeuristic status

-- All of section 3 holds of a response to a request, by what the request directs and what governs the response.
pub record StoresBy (kind : Kind) (request : Request) (status : ℕ) (response : LineMap) (asks : Directives)
    (by : Governing) : Type 0 where
  pub understood : IsGetOrHead request.method
  pub stored : IsStatusStored status by.directives
  pub request_lets : asks.no_store ≡ false
  pub response_lets : IsStorable by.directives
  pub shareable : IsShareable kind request.fields by.directives
  pub suited : IsSuited kind status by response

-- the response may be stored
abbrev pub MayStore : Kind → Request → ℕ → LineMap → Type 0
MayStore kind request status response =
    StoresBy kind request status response (directed request.fields) (by_itself response)
