-- What a lookup answers.
use Rattle.std.proofs.Common.{◌∙◌, ◌≡◌, ◌≢◌, ◌≤◌, ap, get_or, inl, inr, List, refl, Some, subst, ℕ}
use Rattle.{cache_rules.specs.Selection.IsChosen, std.proofs.lemmas.Option.get_or_from_slice_get}
use Rattle.{cache_policy.specs.{declared.Governing.Governing, Directives.directed}, headers.specs.LineMap.LineMap}
use Rattle.cache_policy.specs.{Decisions.{Answers, counted}, Age.age_at, Fields.capped, Targets.governing}
use Rattle.cache_policy.specs.{declared.decision.Decision.Decision, Policies.{AnswersUnder, Policy}, Requests.Request}
use Rattle.cache_rules.specs.{declared.stored.StoredResponse.StoredResponse, Stored.{fields_of_stored, times_of}}
use Rattle.cache_store.specs.Lookups.{HasFields, IsAnswer, IsDecisionOf, IsFound, IsFreshBy, IsFreshFor, IsLookupOf}
use Rattle.cache_store.specs.{declared.lookup.Lookup.{Lookup, TheVariants.{Forward, Unavailable}}, Lookups.freshness_of}
use Rattle.cache_store.{specs.Numbers.{numbered, times_in}, proofs.NumberLemmas.numbered-at}
use Rattle.cache_store.specs.declared.lookup.Lookup.TheVariants.{Serve, ServeAndRevalidate, Validate, ValidateOrServe}
use Rattle.cache_policy.specs.declared.decision.Decision.TheVariants as decisions

-- how old a stored response is at a present
abbrev pub age_now : ℕ → StoredResponse → ℕ
age_now now stored = capped (age_at (times_of stored now) (fields_of_stored stored))

module _ (policy : Policy) (most : ℕ) (request : Request) (now : ℕ) (responses : List StoredResponse) (place : ℕ)
    (selected : IsChosen request responses place) (decision : Decision)
    (distinct : (number : ℕ) → times_in number responses ≤ 1) where
  -- the policy decides so about the selected response
  abbrev IsDecided : Decision → Type 0
  IsDecided d = (lifetime : ℕ) × IsFreshFor policy most selected.response lifetime × AnswersUnder policy request.fields
      (fields_of_stored selected.response) (freshness_of lifetime selected.response now) d

  found_as : IsDecided decision → (other : Decision) → decision ≡ other
      → IsFound policy most request now responses other place
  found_as decided other same = let d = subst IsDecided same decided in
      record { selected = selected; lifetime = d.0; fresh_for = d.1; decided = d.2 }

  -- no other of the responses has its number
  shown : (number : ℕ) → number ≡ selected.response.number → numbered number responses ≡ Some selected.response
  shown number same = ap (λ n. numbered n responses) same ∙ numbered-at _ _ _ distinct selected.at

  answer_by : IsDecided decision → (lookup : Lookup) → IsLookupOf selected.response
      (age_now now selected.response) decision lookup → IsAnswer policy most request now responses lookup
  unfolding found_as
  answer_by decided (Serve number age) is = elim is.0 [
    | inl same ↦ inl (record {
      place = place;
      found = found_as decided decisions.Serve same;
      shown = shown number is.1;
      age = is.2;
    })
    | inr same ↦ inr (let found = found_as decided decisions.ServeStale same in
        record { place = place; found = found; shown = shown number is.1; age = is.2 })
  ]
  answer_by decided (ServeAndRevalidate number age) is = let found = found_as decided decisions.ServeAndRevalidate
      is.0 in record { place = place; found = found; shown = shown number is.1; age = is.2 }
  answer_by decided (Validate number fields) is = let found = found_as decided decisions.Revalidate is.0 in
      record { place = place; found = found; shown = shown number is.1; fields = is.2 }
  answer_by decided (ValidateOrServe number fields) is = let found = found_as decided decisions.RevalidateOrServe
      is.0 in record { place = place; found = found; shown = shown number is.1; fields = is.2 }
  answer_by decided Unavailable is = inl (place, found_as decided decisions.Unavailable is)
  answer_by decided Forward is = absurd (subst IsDecided is decided).2

  -- the response at the place, as the code has it
  module _ (stored : StoredResponse) (at : stored ≡ get_or responses place stored) (age : ℕ)
      (aged : age ≡ age_now now stored) (decides : IsDecisionOf policy most request.fields age stored decision) where
    same_stored : stored ≡ selected.response
    same_stored = at ∙ get_or_from_slice_get responses place selected.response stored selected.at

    is_decided : IsDecided decision
    is_decided = rw same_stored at (rw aged at decides)

    pub answer_decided : (lookup : Lookup) → IsLookupOf stored age decision lookup
        → IsAnswer policy most request now responses lookup
    answer_decided lookup is = answer_by is_decided lookup (rw same_stored at (rw aged at is))

    pub has_fields : decision ≢ decisions.Unavailable → HasFields policy most request now responses
    has_fields other = (decision, place, found_as is_decided decision refl, other)

-- the decision by what governs the stored response, as the code has it
pub decision-by : (policy : Policy) (most : ℕ) (request : LineMap) (age : ℕ) (stored : StoredResponse)
    (decision : Decision) (by : Governing) → by ≡ governing policy.targets (fields_of_stored stored)
    → (lifetime : ℕ) → IsFreshBy policy.kind by most stored lifetime → Answers policy.kind (counted policy.immutable
    (directed request) by.directives (record { lifetime = lifetime; age = age })) by.directives
    (record { lifetime = lifetime; age = age }) decision → IsDecisionOf policy most request age stored decision
decision-by policy most request age stored decision by is lifetime fresh_by answers = (
  lifetime,
  rw is at fresh_by,
  rw is at answers,
)
