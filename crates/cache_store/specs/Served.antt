-- What is served of a store (RFC 9111, section 4).
use Rattle.std.specs.Prelude.{◌≡◌, List, Some, ℕ}
use Rattle.cache_rules.specs.{Selection.IsCandidate, Stored.fields_of_stored}
use Rattle.{cache_rules.specs.declared.stored.StoredResponse.StoredResponse, headers.specs.LineMap.{Field, field_of}}
use Rattle.cache_policy.specs.{Policies.{asks, Policy, tells}, Requests.Request, Decisions.IsGoodEnough}
use Rattle.cache_store.specs.{declared.lookup.Lookup.{Lookup, TheVariants.ServeAndRevalidate}, History.History}
use Rattle.cache_store.specs.{Lookups.{age_of_stored, freshness_of, IsFreshFor}, Numbers.numbered, History.IsJustified}
use Rattle.cache_store.specs.declared.lookup.Lookup.TheVariants.{Forward, Serve, Unavailable, Validate, ValidateOrServe}

-- the answer is the stored response with the number, with this field Age
abbrev pub Serves : Lookup → ℕ → Field → Type 0
Serves (Serve named line) number age = (named ≡ number) × (field_of line ≡ age)
Serves (ServeAndRevalidate named line) number age = (named ≡ number) × (field_of line ≡ age)
Serves (Validate named fields) number age = ⊥
Serves (ValidateOrServe named fields) number age = ⊥
Serves Unavailable number age = ⊥
Serves Forward number age = ⊥

-- The response with the number may be served to the request, by all that was called before: it is stored, and the
-- calls justify that; it matches the request by method and Vary (sections 4 and 4.1); neither it nor the request says
-- `no-cache`; it is as young as the request wants it; it is fresh, or each directive that applies allows it stale
-- (section 4.2.4, and RFC 5861); and it has its current age (section 5.1).
pub record IsRightlyServed (policy : Policy) (most : ℕ) (target : List ℕ) (calls : History) (request : Request)
    (now : ℕ)
    (responses : List StoredResponse) (number : ℕ) (line : Field) : Type 0 where
  pub response : StoredResponse
  pub at : numbered number responses ≡ Some response
  pub justified : IsJustified policy target calls response
  pub matches : IsCandidate request response
  pub lifetime : ℕ
  pub fresh_for : IsFreshFor policy most response lifetime
  pub good : IsGoodEnough policy.kind
      (asks policy request.fields (fields_of_stored response) (freshness_of lifetime response now))
      (tells policy (fields_of_stored response)) (freshness_of lifetime response now)
  pub age : line ≡ age_of_stored response now
