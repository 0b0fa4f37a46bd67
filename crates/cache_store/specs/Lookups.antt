-- What a store answers to a request (RFC 9111, section 4).
use Rattle.std.specs.Prelude.{[], ◌∷◌, ◌≡◌, ◌≢◌, ◌⊎◌, codes, decimal, List, min, None, Option, Some, unwrap_or, ℕ}
use Rattle.{headers.specs.LineMap.{Field, field_of, fields_of, LineMap}, cache_policy.specs.Age.age_at}
use Rattle.cache_policy.specs.{Decisions.AnswersUnstored, Fields.capped, Freshness.{HasHeuristicBy, HasLifetimeBy}}
use Rattle.cache_policy.specs.{Policies.{AnswersUnder, Policy}, Requests.Request, Targets.governing}
use Rattle.cache_policy.specs.{Validating.validation_fields, declared.{Governing.Governing, Kind.Kind}}
use Rattle.cache_policy.specs.declared.decision.{Decision.Decision, Freshness.Freshness}
use Rattle.cache_rules.specs.{Selection.{IsCandidate, IsChosen, IsSelected}, Stored.{fields_of_stored, times_of}}
use Rattle.{cache_rules.specs.declared.stored.StoredResponse.StoredResponse, cache_store.specs.Numbers.numbered}
use Rattle.cache_store.specs.declared.lookup.Lookup.{Lookup, TheVariants.{Serve, ServeAndRevalidate, Validate}}
use Rattle.cache_store.specs.declared.lookup.Lookup.TheVariants.{Forward, Unavailable, ValidateOrServe}
use Rattle.cache_policy.specs.declared.decision.Decision.TheVariants as decisions

-- Age with so many seconds (section 5.1)
abbrev pub age_of_seconds : ℕ → Field
age_of_seconds seconds = (codes "age", decimal seconds ∷ [])

-- Age of a stored response that is served
abbrev pub age_of_stored : StoredResponse → ℕ → Field
age_of_stored stored now = age_of_seconds (capped (age_at (times_of stored now) (fields_of_stored stored)))

-- the fields by which a request asks whether a stored response is still good (section 4.3.1)
abbrev pub conditions_of : StoredResponse → List Field
conditions_of stored = validation_fields stored.received (fields_of_stored stored)

-- what the decision about a stored response of an age comes to
abbrev pub IsLookupOf : StoredResponse → ℕ → Decision → Lookup → Type 0
IsLookupOf stored age decision (Serve number field) =
    ((decision ≡ decisions.Serve) ⊎ (decision ≡ decisions.ServeStale)) × (number ≡ stored.number)
    × (field_of field ≡ age_of_seconds age)
IsLookupOf stored age decision (ServeAndRevalidate number field) =
    (decision ≡ decisions.ServeAndRevalidate) × (number ≡ stored.number) × (field_of field ≡ age_of_seconds age)
IsLookupOf stored age decision (Validate number fields) =
    (decision ≡ decisions.Revalidate) × (number ≡ stored.number) × (fields_of fields.items ≡ conditions_of stored)
IsLookupOf stored age decision (ValidateOrServe number fields) = (decision ≡ decisions.RevalidateOrServe)
    × (number ≡ stored.number) × (fields_of fields.items ≡ conditions_of stored)
IsLookupOf stored age decision Unavailable = decision ≡ decisions.Unavailable
IsLookupOf stored age decision Forward = decision ≡ decisions.Fetch

-- How many seconds a stored response is fresh, by what governs it, in a cache that guesses up to `most` seconds: as
-- many as its origin states, or else as many as a cache may guess (section 4.2.2), or none.
abbrev pub IsFreshBy : Kind → Governing → ℕ → StoredResponse → ℕ → Type 0
IsFreshBy kind by most stored seconds =
    HasLifetimeBy kind stored.received by (fields_of_stored stored) (Some seconds)
    ⊎ (HasLifetimeBy kind stored.received by (fields_of_stored stored) None
    × ((guess : Option ℕ) × HasHeuristicBy kind stored.status stored.received by (fields_of_stored stored) guess
    × (seconds ≡ min (unwrap_or guess 0) most)))

-- the same in a cache with a policy
abbrev pub IsFreshFor : Policy → ℕ → StoredResponse → ℕ → Type 0
IsFreshFor policy most stored seconds =
    IsFreshBy policy.kind (governing policy.targets (fields_of_stored stored)) most stored seconds

-- such a lifetime, and its age
abbrev pub freshness_of : ℕ → StoredResponse → ℕ → Freshness
freshness_of seconds stored now =
    record { lifetime = seconds; age = capped (age_at (times_of stored now) (fields_of_stored stored)) }

-- the policy decides so about a stored response of an age, if it suits a request with these fields
abbrev pub IsDecisionOf : Policy → ℕ → LineMap → ℕ → StoredResponse → Decision → Type 0
IsDecisionOf policy most request age stored decision = (lifetime : ℕ) × IsFreshFor policy most stored lifetime
    × AnswersUnder policy request (fields_of_stored stored) (record { lifetime = lifetime; age = age }) decision

module _ (policy : Policy) (most : ℕ) (request : Request) (now : ℕ) (responses : List StoredResponse) where
  -- The response at the place is the one that is selected for the request (section 4.1), and the policy decides so
  -- about it.
  pub record IsFound (decision : Decision) (place : ℕ) : Type 0 where
    pub selected : IsChosen request responses place
    pub lifetime : ℕ
    pub fresh_for : IsFreshFor policy most selected.response lifetime
    pub decided : AnswersUnder policy request.fields (fields_of_stored selected.response)
        (freshness_of lifetime selected.response now) decision

  -- none is selected
  abbrev pub IsUnmatched : Type 0
  IsUnmatched = IsSelected (IsCandidate request) responses None

  -- a response with this number is found so, and has this field Age
  pub record IsServed (decision : Decision) (number : ℕ) (line : Field) : Type 0 where
    pub place : ℕ
    pub found : IsFound decision place
    pub shown : numbered number responses ≡ Some found.selected.response
    pub age : line ≡ age_of_stored found.selected.response now

  -- a response with this number is found so, and the origin is asked by these fields
  pub record IsAsked (decision : Decision) (number : ℕ) (sent : List Field) : Type 0 where
    pub place : ℕ
    pub found : IsFound decision place
    pub shown : numbered number responses ≡ Some found.selected.response
    pub fields : sent ≡ conditions_of found.selected.response

  -- the answer has fields, which take memory: a response is selected, and the answer isn't 504
  abbrev pub HasFields : Type 0
  HasFields = (decision : Decision) × (place : ℕ) × IsFound decision place × (decision ≢ decisions.Unavailable)

  -- which facts give each answer
  abbrev pub IsAnswer : Lookup → Type 0
  IsAnswer (Serve number age) =
      IsServed decisions.Serve number (field_of age) ⊎ IsServed decisions.ServeStale number (field_of age)
  IsAnswer (ServeAndRevalidate number age) = IsServed decisions.ServeAndRevalidate number (field_of age)
  IsAnswer (Validate number fields) = IsAsked decisions.Revalidate number (fields_of fields.items)
  IsAnswer (ValidateOrServe number fields) = IsAsked decisions.RevalidateOrServe number (fields_of fields.items)
  IsAnswer Unavailable = ((place : ℕ) × IsFound decisions.Unavailable place)
      ⊎ (IsUnmatched × AnswersUnstored request decisions.Unavailable)
  IsAnswer Forward = IsUnmatched × AnswersUnstored request decisions.Fetch
