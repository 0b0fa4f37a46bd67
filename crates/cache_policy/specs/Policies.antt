-- What a cache decides by its policy.
use Rattle.std.specs.Prelude.{◌⊎◌, ℕ, Bool, false, List, [], Option}
use Rattle.headers.specs.LineMap.{LineMap}
use Rattle.cache_policy.specs.Decisions.{Answers, AnswersUnstored, counted, freshness_at}
use Rattle.cache_policy.specs.{Requests.Request, Storing.StoresBy, Varying.Suits, declared.decision.Decision.Decision}
use Rattle.cache_policy.specs.{declared.decision.Freshness.Freshness, declared.policy.Policy.Policy as Given}
use Rattle.cache_fields.specs.{Directives.directed, Targets.governing, declared.age.Times.Times}
use Rattle.cache_fields.specs.{declared.directives.Directives.Directives, declared.kind.Kind.Kind}
use Rattle.cache_fields.specs.Freshness.{HasHeuristicBy, HasLifetimeBy}

-- Whom a cache serves; whether `immutable` counts; and the names of its targeted fields, in the order in which they
-- count.
pub record Policy : Type 0 where
  pub kind : Kind
  pub immutable : Bool
  pub targets : List (List ℕ)

abbrev pub policy_of : Given → Policy
policy_of policy = record { kind = policy.kind; immutable = policy.immutable; targets = policy.targets.now }

-- a cache of this kind without options
abbrev pub plain : Kind → Policy
plain kind = record { kind = kind; immutable = false; targets = [] }

module _ (policy : Policy) where
  -- what a response directs the cache
  abbrev pub tells : LineMap → Directives
  tells response = (governing policy.targets response).directives

  -- the response may be stored
  abbrev pub MayStoreUnder : Request → ℕ → LineMap → Type 0
  MayStoreUnder request status response =
      StoresBy policy.kind request status response (directed request.fields) (governing policy.targets response)

  -- it is fresh for so long, or no lifetime is stated
  abbrev pub HasLifetimeUnder : ℕ → LineMap → Option ℕ → Type 0
  HasLifetimeUnder received response stated =
      HasLifetimeBy policy.kind received (governing policy.targets response) response stated

  -- so long a lifetime may be guessed, or none
  abbrev pub HasHeuristicUnder : ℕ → ℕ → LineMap → Option ℕ → Type 0
  HasHeuristicUnder status received response guess =
      HasHeuristicBy policy.kind status received (governing policy.targets response) response guess

  -- what counts of a request for a stored response
  abbrev pub asks : LineMap → LineMap → Freshness → Directives
  asks request response freshness = counted policy.immutable (directed request) (tells response) freshness

  -- the answer, if the response suits the request
  abbrev pub AnswersUnder : LineMap → LineMap → Freshness → Decision → Type 0
  AnswersUnder request response freshness decision =
      Answers policy.kind (asks request response freshness) (tells response) freshness decision

  -- the same by the lifetime that is stated
  pub record DecidesMatchedUnder (request response : LineMap) (times : Times) (decision : Decision) : Type 0 where
    pub stated : Option ℕ
    pub lifetime : HasLifetimeUnder times.response response stated
    pub answers : AnswersUnder request response (freshness_at stated times response) decision

  -- the answer by a response that answered the stored request, which suits the new one or doesn't
  abbrev pub DecidesUnder : Request → Request → LineMap → Times → Decision → Type 0
  DecidesUnder stored request response times decision =
      (Suits stored request response × DecidesMatchedUnder request.fields response times decision)
      ⊎ ((¬ (Suits stored request response)) × AnswersUnstored request decision)

  -- the same by a lifetime and an age
  abbrev pub DecidesByUnder : Request → Request → LineMap → Freshness → Decision → Type 0
  DecidesByUnder stored request response freshness decision =
      (Suits stored request response × AnswersUnder request.fields response freshness decision)
      ⊎ ((¬ (Suits stored request response)) × AnswersUnstored request decision)
