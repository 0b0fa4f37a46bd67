-- Which of several stored responses is chosen (RFC 9111, sections 4 and 4.1).
use Rattle.std.specs.Prelude.{◌≡◌, ◌↔◌, ◌⊎◌, ℕ, ◌<◌, ◌≤◌, List, Option, Some, None, codes, nat_lt, if◌then◌else◌}
use Rattle.{std.specs.List.{AllPairs, Contains, slice_get}, headers.specs.{LineMap.{LineMap, lines_at}, Typed.HasLine}}
use Rattle.cache_policy.specs.{Requests.Request, Updating.IsUpdated, Varying.Suits}
use Rattle.cache_rules.specs.{Stored.{fields_of_stored, made_at, request_of_stored}, declared.selection.Newest.Newest}
use Rattle.cache_rules.specs.declared.selection.Search.{Search, TheVariants.{All, Varying, Updated}}
use Rattle.cache_rules.specs.declared.stored.StoredResponse.{StoredResponse}
use denote.Ref.{Bor}

-- the stored response may answer the request, as far as method and Vary go
abbrev pub IsCandidate : Request → StoredResponse → Type 0
IsCandidate request stored = Suits (request_of_stored stored) request (fields_of_stored stored)

module _ (Is : StoredResponse → Type 0) (all : List StoredResponse) where
  -- One of these responses has the property, and no other that has it is more recent, as Date says. Of those that are
  -- as recent it is the last.
  pub record IsMostRecent (place : ℕ) : Type 0 where
    pub response : StoredResponse
    pub at : slice_get all place ≡ Some response
    pub is : Is response
    pub newest : (k : ℕ) (other : StoredResponse) → slice_get all k ≡ Some other → Is other
        → made_at other ≤ made_at response
    pub last : (k : ℕ) (other : StoredResponse) → slice_get all k ≡ Some other → Is other → place < k
        → made_at other < made_at response

  -- the place of the most recent one, or none, if no response has the property
  abbrev pub IsSelected : Option ℕ → Type 0
  IsSelected None = (k : ℕ) (other : StoredResponse) → slice_get all k ≡ Some other → ¬ (Is other)
  IsSelected (Some place) = IsMostRecent place

  -- a response with the property is at the place
  abbrev pub IsAt : ℕ → Type 0
  IsAt place = (response : StoredResponse) × (slice_get all place ≡ Some response) × Is response

  -- no other response than the one at the place has the property
  abbrev pub IsOnly : ℕ → Type 0
  IsOnly place = (k : ℕ) (other : StoredResponse) → slice_get all k ≡ Some other → Is other → k ≡ place

-- the response has a field Vary
abbrev pub IsVarying : StoredResponse → Type 0
IsVarying stored = HasLine (fields_of_stored stored (codes "vary"))

module _ (request : Request) (all : List StoredResponse) where
  -- The response may answer the request. It has a field Vary, or none of these responses that may answer the request
  -- has one: a default response that omits it gives way to one that doesn't (section 4.1).
  abbrev pub IsPreferred : StoredResponse → Type 0
  IsPreferred stored =
      IsCandidate request stored
      × (IsVarying stored ⊎ ((k : ℕ) (other : StoredResponse) → slice_get all k ≡ Some other
      → IsCandidate request other → ¬ (IsVarying other)))

  -- the response at the place is the most recent one of those
  abbrev pub IsChosen : ℕ → Type 0
  IsChosen place = IsMostRecent IsPreferred all place

  -- it is chosen for the request, or none may answer that
  abbrev pub IsChoice : Option ℕ → Type 0
  IsChoice None = IsSelected (IsCandidate request) all None
  IsChoice (Some place) = IsChosen place

-- the places of which something holds, in order
pub record ArePlaces (At : ℕ → Type 0) (places : List ℕ) : Type 0 where
  pub each : (place : ℕ) → Contains places place ↔ At place
  pub ascending : AllPairs (λ (a b : ℕ). a < b) places

-- the only place of which something holds, or none, if it holds of none
abbrev pub IsOneAt : (ℕ → Type 0) → Option ℕ → Type 0
IsOneAt At None = (place : ℕ) → ¬ (At place)
IsOneAt At (Some place) = At place × ((other : ℕ) → At other → other ≡ place)

-- it holds of some place
abbrev pub IsSomewhere : (ℕ → Type 0) → Type 0
IsSomewhere At = (place : ℕ) × At place

-- ---- how it is found

-- the most recent one so far, once one more is known
abbrev pub renewed : Option Newest → ℕ → Bor StoredResponse → Option Newest
renewed None place response = Some (record { place = place; response = response })
renewed (Some newest) place response =
    if nat_lt (made_at response.now) (made_at newest.response.now) then Some newest else
    Some (record { place = place; response = response })

-- which stored responses a search is about: all that may answer the request, or of these those that a 304 is about
abbrev pub IsSought : Request → Option LineMap → StoredResponse → Type 0
IsSought request None stored = IsCandidate request stored
IsSought request (Some update) stored = IsCandidate request stored × IsUpdated (fields_of_stored stored) update

-- the same of a search for the most recent one
abbrev pub IsInSearch : Request → Search → StoredResponse → Type 0
IsInSearch request All = IsCandidate request
IsInSearch request Varying = λ stored. IsCandidate request stored × IsVarying stored
IsInSearch request (Updated update) = IsSought request (Some (lines_at update.now))
