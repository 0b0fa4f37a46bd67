-- What the calls of a cache do: answering a request from its store, and taking the response to one that it sent on.
use Rattle.std.specs.Prelude.{◌≡◌, ◌⊎◌, ⊤, ℕ, Bool, true, false, List, [], ◌∷◌, OnErr, Option, Some, None, Result, Ok}
use Rattle.{std.specs.{Prelude.{codes, string_bytes}, List.list_any}, headers.specs.LineMap.{LineMap, field_of}}
use Rattle.{headers.specs.{LineMap.lines_at, Lines.Line}, cache_store.specs.Changes.{FitsAlone, IsInserted, IsStoredAs}}
use Rattle.cache_store.specs.{Changes.{IsToStore, IsTooLarge}, Contents.{Contents, size_at}, History.Step}
use Rattle.cache_store.specs.{History.Call.Arrived, declared.{limits.Limits.Limits, lookup.Lookup.Lookup}}
use Rattle.{cache_policy.specs.Policies.Policy, cache_rules.specs.declared.storing.Reception.Reception}
use Rattle.{cache_rules.specs.declared.stored.StoredResponse.StoredResponse, chain.specs.Caches.{IsNoted, IsPlain}}
use Rattle.chain.specs.{Caches.{IsSought, Reply, is_bare, key_of, special_names}, declared.cache.Action.Action}
use Rattle.chain.specs.declared.cache.Action.TheVariants.{Serve, ServeAndFetch, Fetch, FetchOrServe, Forward}
use Rattle.chain.specs.declared.cache.{Action.TheVariants.Unavailable, Pending.Pending, ArrivedResponse.ArrivedResponse}
use Rattle.decide_resource.specs.Requests.{Request}
use Rattle.cache_store.specs.declared.lookup.Lookup.TheVariants as lookup

-- ---- tests

abbrev pub is_there : List Line → Bool
is_there [] = false
is_there (line ∷ lines) = true

-- the message has a field that a plain request doesn't have
abbrev pub has_special : LineMap → Bool
has_special fields = list_any (λ name. is_there (fields name)) special_names

-- the message has one field line of Host, with this bare host
pub record HasBareHost (fields : LineMap) (host : Line) : Type 0 where
  pub is : fields (codes "host") ≡ host ∷ []
  pub bare : is_bare host ≡ true

-- ---- calls

-- the request that the cache sent on at that time, of its clock
pub record IsPending (target : List ℕ) (request : Request) (requested : ℕ) (pending : Pending) : Type 0 where
  pub plain : IsPlain target request
  pub key : string_bytes pending.key ≡ key_of target request
  pub method : pending.method ≡ request.method
  pub fields : (name : List ℕ) → lines_at pending.fields name ≡ request.fields name
  pub at : pending.requested ≡ requested

module _ (target : List ℕ) (request : Request) (now : ℕ) where
  -- what a cache does by a lookup: it sends the stored response at once, or sends the request on
  abbrev pub IsActionOf : Lookup → Action → Type 0
  IsActionOf (lookup.Serve named age) (Serve number line) = (number ≡ named) × (field_of line ≡ field_of age)
  IsActionOf (lookup.ServeAndRevalidate named age) (ServeAndFetch number line pending) =
      (number ≡ named) × (field_of line ≡ field_of age) × IsPending target request now pending
  IsActionOf (lookup.Validate named fields) (Fetch pending) = IsPending target request now pending
  IsActionOf (lookup.ValidateOrServe named fields) (FetchOrServe number pending) =
      (number ≡ named) × IsPending target request now pending
  IsActionOf lookup.Unavailable Unavailable = ⊤
  IsActionOf lookup.Forward (Fetch pending) = IsPending target request now pending
  IsActionOf found action = ⊥

  -- a cache asks its store for a plain request, and does what that says; any other request is sent on as it is
  abbrev pub IsAction : Policy → Limits → ℕ → Contents → Contents → Action → Type 0
  IsAction policy limits most old new action =
      ((found : Lookup) × IsSought policy limits most target request now old new found × IsActionOf found action)
      ⊎ ((¬ (IsPlain target request)) × (new ≡ old) × (action ≡ Forward))

-- a response as it is received
abbrev pub reply_of : ArrivedResponse → Reply
reply_of received =
    record {
      status = received.status;
      fields = lines_at received.fields;
      content = received.content;
    }

-- What becomes of the response: it is stored as it came, with the times of both, or it isn't, since it may not be or is
-- too large; or an allocation fails.
pub record IsTaken {E : Type 0} (policy : Policy) (limits : Limits) (target : List ℕ) (request : Request)
    (requested : ℕ) (reply : Reply) (reception : Reception) (now : ℕ) (result : Result (Option ℕ) E)
    (old new : Contents) : Type 0 where
  pub came : StoredResponse
  pub noted : IsNoted request requested reply now came
  pub arrived : Step policy limits (Arrived (key_of target request) came reception) old new
  pub stored : (number : ℕ) → result ≡ Ok (Some number) → (kept : StoredResponse) × IsToStore policy came reception
      × IsStoredAs came kept × (kept.number ≡ number) × IsInserted limits (key_of target request) kept old new
  pub unstored : result ≡ Ok None
      → ((¬ (IsToStore policy came reception)) ⊎ IsTooLarge limits (key_of target request) came) × (new ≡ old)
  pub memory : OnErr result
      (IsToStore policy came reception × FitsAlone limits 1 (size_at (key_of target request) came))
