-- What the calls of a store make of what it has (RFC 9111, sections 3, 4.3.4 and 4.4).
use Rattle.std.specs.Prelude.{[], ◌++◌, ◌+◌, ◌-◌, ◌<◌, ◌∷◌, ◌≡◌, ◌≢◌, ◌≤◌, ◌⊎◌, drop, length, List, None, Some, take, ℕ}
use Rattle.{std.specs.Prelude.remove, cache_policy.specs.{Requests.Request, Policies.Policy}}
use Rattle.{headers.specs.LineMap.LineMap, cache_rules.specs.{Fields.IsTooSmallFor, Identifying.IsIdentified}}
use Rattle.cache_rules.specs.declared.{freshening.Exchange.Exchange, storing.Reception.Reception}
use Rattle.cache_rules.specs.{declared.stored.StoredResponse.StoredResponse, Freshening.{IsFreshened, IsReusable}}
use Rattle.cache_rules.specs.Selection.{IsCandidate, IsChosen, IsMostRecent, IsSelected, IsSought}
use Rattle.cache_rules.specs.{Stored.{fields_of_stored, request_of_stored}, Storing.{IsAsStored, IsStored}}
use Rattle.{cache_rules.specs.Storing.storing_fields, cache_store.specs.Contents.{bytes_at, Contents, responses_at}}
use Rattle.cache_store.specs.{Contents.{size_at, with_target, without}, Room.IsLongestWithRoom, Updates.AreLeft}
use Rattle.cache_store.specs.{Updates.{BecomesBeside, BecomesByHead}, declared.limits.Limits.Limits}
use Rattle.cache_store.specs.declared.freshening.Refreshed.{Refreshed, TheVariants.{Absent, Once, Stored, Unchanged}}

-- the first targets of these, in their order: what an error leaves
pub record IsFront (old new : Contents) : Type 0 where
  pub count : ℕ
  pub front : new ≡ take count old

-- ---- a new response

-- the response as it came, and as it is stored (section 3.1)
pub record IsStoredAs (came stored : StoredResponse) : Type 0 where
  pub method : stored.method ≡ came.method
  pub request : stored.request ≡ came.request
  pub status : stored.status ≡ came.status
  pub content : stored.content ≡ came.content
  pub requested : stored.requested ≡ came.requested
  pub received : stored.received ≡ came.received
  pub fields : IsAsStored came.received (fields_of_stored came) (fields_of_stored stored)

-- the map of the response as it came is too small for the fields that are changed before it is stored
abbrev pub IsTooSmallToStore : StoredResponse → Type 0
IsTooSmallToStore came = IsTooSmallFor came.response (storing_fields came.received came.response)

-- a cache of this policy stores the response
abbrev pub IsToStore : Policy → StoredResponse → Reception → Type 0
IsToStore policy came reception = IsStored policy (request_of_stored came) came.status (fields_of_stored came) reception

-- so many responses, with so many bytes, may be under one target
pub record FitsAlone (limits : Limits) (responses bytes : ℕ) : Type 0 where
  pub variants : responses ≤ limits.variants
  pub few : responses ≤ limits.responses
  pub light : bytes ≤ limits.bytes

-- the response is larger than the limits under the target, as it came or as it is stored
abbrev pub IsTooLarge : Limits → List ℕ → StoredResponse → Type 0
IsTooLarge limits target came =
    (¬ (FitsAlone limits 1 (size_at target came)))
    ⊎ ((stored : StoredResponse) × IsStoredAs came stored × ¬ (FitsAlone limits 1 (size_at target stored)))

-- What is left of the responses of a target beside one to a new request: without the one that was selected for that
-- request so far, if it has the same method (section 4.3.3).
abbrev pub IsRest : Request → List StoredResponse → List StoredResponse → Type 0
IsRest request all rest =
    (IsSelected (IsCandidate request) all None × (rest ≡ all))
    ⊎ ((place : ℕ) × (found : IsChosen request all place)
    × (((found.response.method ≡ request.method) × (rest ≡ remove all place))
    ⊎ ((found.response.method ≢ request.method) × (rest ≡ all))))

-- the oldest of the responses of the target go, as few as leave room for one more of this size
pub record IsTrimmed (limits : Limits) (target : List ℕ) (size : ℕ) (old new : List StoredResponse) : Type 0 where
  pub count : ℕ
  pub left : new ≡ drop count old
  pub fits : FitsAlone limits (length new + 1) (bytes_at target new + size)
  pub fewest : 0 < count → ¬ (FitsAlone limits (length (drop (count - 1) old) + 1)
      (bytes_at target (drop (count - 1) old) + size))

-- The new response is stored under the target, which becomes the most recently used; the least recently used others go,
-- as few as leave room.
pub record IsInserted (limits : Limits) (target : List ℕ) (new : StoredResponse) (old contents : Contents) : Type 0
  where
    pub others : List StoredResponse
    pub kept : List StoredResponse
    pub rest : Contents
    pub beside : IsRest (request_of_stored new) (responses_at target old) others
    pub trimmed : IsTrimmed limits target (size_at target new) others kept
    pub room : IsLongestWithRoom limits (length kept + 1) (bytes_at target kept + size_at target new)
        (without target old) rest
    pub put : contents ≡ (target, kept ++ new ∷ []) ∷ rest

-- ---- a response that validates stored ones

-- what a 304 to the request makes of the responses, if it updates none
abbrev pub IsUnrefreshed : Request → List StoredResponse → Refreshed → Type 0
IsUnrefreshed request all Absent = IsSelected (IsCandidate request) all None
IsUnrefreshed request all Unchanged = (place : ℕ) × IsChosen request all place
IsUnrefreshed request all (Stored at) = ⊥
IsUnrefreshed request all (Once fresh) = ⊥

module _ (policy : Policy) (target : List ℕ) (request : Request) (update : LineMap) (exchange : Exchange) (old new :
    Contents)
  where
    -- The most recent of the responses that the 304 updates is updated, and so are the others; those of the others that
    -- stay stored are left (section 4.3.4).
    pub record IsRefreshedTo (fresh : StoredResponse) (left : List StoredResponse) : Type 0 where
      pub place : ℕ
      pub identified : IsIdentified request update (responses_at target old) place
      pub selected : IsMostRecent (IsSought request (Some update)) (responses_at target old) place
      pub freshened : IsFreshened selected.response update exchange fresh
      pub beside : AreLeft (BecomesBeside policy request update exchange) (remove (responses_at target old) place) left

    -- it stays stored, as the one that was stored last
    pub record IsRestored (stored_at : ℕ) : Type 0 where
      pub fresh : StoredResponse
      pub left : List StoredResponse
      pub refreshed : IsRefreshedTo fresh left
      pub reusable : IsReusable policy (fields_of_stored refreshed.selected.response) request update fresh
      pub at : stored_at ≡ fresh.number
      pub put : new ≡ (target, left ++ fresh ∷ []) ∷ without target old

    -- it is stored no longer, and answers this request once
    pub record IsLetGo (fresh : StoredResponse) : Type 0 where
      pub left : List StoredResponse
      pub refreshed : IsRefreshedTo fresh left
      pub unusable : ¬ (IsReusable policy (fields_of_stored refreshed.selected.response) request update fresh)
      pub put : new ≡ with_target target left (without target old)

    -- a 304 to the request updates none of the responses
    abbrev pub IsAboutNone : Type 0
    IsAboutNone = (place : ℕ) → ¬ (IsIdentified request update (responses_at target old) place)

    -- what becomes of the responses that may answer the request
    abbrev pub IsRefreshed : Refreshed → Type 0
    IsRefreshed Absent = IsSelected (IsCandidate request) (responses_at target old) None × (new ≡ old)
    IsRefreshed Unchanged = IsAboutNone × ((place : ℕ) × IsChosen request (responses_at target old) place) × (new ≡ old)
    IsRefreshed (Stored at) = IsRestored at
    IsRefreshed (Once fresh) = IsLetGo fresh

    -- what becomes of the responses to GET that could have been chosen for a HEAD
    pub record IsRefreshedByHead : Type 0 where
      pub left : List StoredResponse
      pub each : AreLeft (BecomesByHead policy request update exchange) (responses_at target old) left
      pub put : new ≡ with_target target left (without target old)
