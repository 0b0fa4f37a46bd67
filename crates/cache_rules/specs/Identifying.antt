-- Which stored responses a 304 updates (RFC 9111, section 4.3.4).
use Rattle.{std.specs.Prelude.{ℕ, List, Option, Some, None}, headers.specs.LineMap.LineMap}
use Rattle.cache_policy.specs.{Requests.Request, Updating.{HasStrongTag, HasValidator}}
use Rattle.cache_rules.specs.Selection.{IsAt, IsCandidate, IsMostRecent, IsOnly, IsSought}
use Rattle.cache_rules.specs.declared.identifying.Found.{Found, TheVariants.{Nothing, One, Several}}
use Rattle.cache_rules.specs.declared.stored.StoredResponse.{StoredResponse}

-- The stored response at the place is one that a 304 to the request updates (section 4.3.4): it may answer the request,
-- and the 304 is about it. If the 304 has validators, but no strong one, it is the most recent of these; if it has
-- none, no other may answer the request.
pub record IsIdentified (request : Request) (update : LineMap) (all : List StoredResponse) (place : ℕ) : Type 0 where
  pub sought : IsAt (IsSought request (Some update)) all place
  pub weak : ¬ (HasStrongTag update) → HasValidator update → IsMostRecent (IsSought request (Some update)) all place
  pub none : ¬ (HasValidator update) → IsOnly (IsCandidate request) all place

-- The place of the most recent one of the stored responses that a 304 to the request updates, or none if it updates
-- none. It answers the request (section 4.3.3).
abbrev pub IsUpdatedAnswer : Request → LineMap → List StoredResponse → Option ℕ → Type 0
IsUpdatedAnswer request update all None = (place : ℕ) → ¬ (IsIdentified request update all place)
IsUpdatedAnswer request update all (Some place) =
    IsIdentified request update all place × IsMostRecent (IsSought request (Some update)) all place

-- the place of the only stored response with the property, if just one has it
abbrev pub IsOnlyOne : (StoredResponse → Type 0) → List StoredResponse → Option ℕ → Type 0
IsOnlyOne Is all None = (place : ℕ) → IsAt Is all place → ¬ (IsOnly Is all place)
IsOnlyOne Is all (Some place) = IsAt Is all place × IsOnly Is all place

-- ---- how it is found

-- what is found once one more is
abbrev pub one_more : Found → ℕ → Found
one_more Nothing place = One place
one_more (One other) place = Several
one_more Several place = Several
