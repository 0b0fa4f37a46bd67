-- What a list of calls lets a store have (RFC 9111).
use Rattle.std.specs.Prelude.{[], ◌∷◌, ◌≡◌, ◌≢◌, ◌≤◌, ◌⊎◌, List, ℕ}
use Rattle.{headers.specs.LineMap.LineMap, cache_policy.specs.{Policies.Policy, Requests.Request, Updating.IsUpdated}}
use Rattle.cache_rules.specs.{Freshening.{IsFreshened, IsHeadOf, IsReusable}, Invalidation.Invalidates}
use Rattle.cache_rules.specs.declared.{freshening.Exchange.Exchange, stored.StoredResponse.StoredResponse}
use Rattle.cache_rules.specs.{declared.storing.Reception.Reception, Selection.IsCandidate, Stored.fields_of_stored}
use Rattle.cache_store.specs.Changes.{IsFront, IsInserted, IsRefreshed, IsRefreshedByHead, IsStoredAs, IsToStore}
use Rattle.cache_store.specs.{Contents.{Contents, used, without}, Numbers.AreNumbered, Updates.IsGetFor}
use Rattle.cache_store.specs.declared.{freshening.Refreshed.Refreshed, limits.Limits.Limits}

-- a call of a store, with the target that it is for
pub data Call : Type 0 where
  -- `lookup`
  Looked : List ℕ → Call
  -- `store`, with the request and the response as it came from the origin
  Arrived : List ℕ → StoredResponse → Reception → Call
  -- `freshen`, with the request and the fields of the 304
  Validated : List ℕ → Request → LineMap → Exchange → Call
  -- `freshen_by_head`, with the HEAD and the fields of the 200
  Described : List ℕ → Request → LineMap → Exchange → Call
  -- `invalidate`, with the method of the request and the status of the response
  Answered : List ℕ → List ℕ → ℕ → Call
  -- `remove`
  Removed : List ℕ → Call

-- calls of one store, the latest first
abbrev pub History : Type 0
History = List Call

-- the list has this element
abbrev pub Has : {X : Type 0} → List X → X → Type 0
Has [] x = ⊥
Has (y ∷ ys) x = (y ≡ x) ⊎ Has ys x

-- a store that has this has the response under the target
pub record HasUnder (contents : Contents) (target : List ℕ) (stored : StoredResponse) : Type 0 where
  pub responses : List StoredResponse
  pub at : Has contents (target, responses)
  pub among : Has responses stored

-- What a call leaves of numbers: each response that is stored after it was stored before, as it is and under the same
-- target, or has a number that wasn't given before.
pub record GoOn (next : ℕ) (old : Contents) (later : ℕ) (new : Contents) : Type 0 where
  pub rises : next ≤ later
  pub kept : (target : List ℕ) (stored : StoredResponse) → HasUnder new target stored
      → HasUnder old target stored ⊎ (next ≤ stored.number)

module _ (policy : Policy) (limits : Limits) where
  -- What each call makes of what a store has, whether or not it runs out of memory: the contracts of the calls.
  abbrev pub Step : Call → Contents → Contents → Type 0
  Step (Looked target) old new = new ≡ used target old
  Step (Arrived target came reception) old new =
      (new ≡ old)
      ⊎ ((stored : StoredResponse) × IsToStore policy came reception × IsStoredAs came stored
      × IsInserted limits target stored old new)
      ⊎ IsFront (without target old) new
  Step (Validated target request update exchange) old new =
      ((answer : Refreshed) × IsRefreshed policy target request update exchange old new answer)
      ⊎ (new ≡ without target old)
  Step (Described target request head exchange) old new =
      IsRefreshedByHead policy target request head exchange old new ⊎ (new ≡ without target old)
  Step (Answered target method status) old new =
      (Invalidates method status × (new ≡ without target old)) ⊎ ((¬ (Invalidates method status)) × (new ≡ old))
  Step (Removed target) old new = new ≡ without target old

  -- after these calls a new store has this
  abbrev pub Run : History → Contents → Type 0
  Run [] contents = contents ≡ []
  Run (call ∷ calls) contents = (before : Contents) × Run calls before × Step call before contents

-- what a store has, and the number that it gives next
pub record State : Type 0 where
  pub contents : Contents
  pub next : ℕ

-- A store that was in the first state is in the last one after these calls, each of which leaves contents and numbers
-- as its contract says.
abbrev pub RunFrom : Policy → Limits → State → History → State → Type 0
RunFrom policy limits first [] last = last ≡ first
RunFrom policy limits first (call ∷ calls) last =
    (before : State) × RunFrom policy limits first calls before × Step policy limits call before.contents last.contents
    × GoOn before.next before.contents last.next last.contents × AreNumbered last.next last.contents

module _ (policy : Policy) (target : List ℕ) where
  -- The calls justify that the response is stored under the target: it came from the origin for a request to this
  -- target, and may be stored (section 3); or it is one that the calls justified before, with the fields of a 304
  -- (section 4.3.4) or of a 200 to HEAD (section 4.3.5) that is about it, and may still be stored. Since it came,
  -- nothing was removed under this target (section 4.4).
  abbrev pub IsJustified : History → StoredResponse → Type 0
  IsJustified [] stored = ⊥
  IsJustified (Looked other ∷ calls) stored = IsJustified calls stored
  IsJustified (Arrived other came reception ∷ calls) stored =
      IsJustified calls stored ⊎ ((other ≡ target) × IsToStore policy came reception × IsStoredAs came stored)
  IsJustified (Validated other request update exchange ∷ calls) stored =
      IsJustified calls stored
      ⊎ ((other ≡ target) × ((old : StoredResponse) × IsJustified calls old × IsCandidate request old
      × IsUpdated (fields_of_stored old) update × IsFreshened old update exchange stored
      × IsReusable policy (fields_of_stored old) request update stored))
  IsJustified (Described other request head exchange ∷ calls) stored =
      IsJustified calls stored
      ⊎ ((other ≡ target) × ((old : StoredResponse) × IsJustified calls old × IsGetFor request old
      × IsHeadOf (fields_of_stored old) head × IsFreshened old head exchange stored
      × IsReusable policy (fields_of_stored old) request head stored))
  IsJustified (Answered other method status ∷ calls) stored =
      (Invalidates method status → other ≢ target) × IsJustified calls stored
  IsJustified (Removed other ∷ calls) stored = (other ≢ target) × IsJustified calls stored

-- the call removes what is stored under the target: `remove`, or `invalidate` after a request that isn't safe and a
-- response that is no error (section 4.4)
abbrev pub Removes : List ℕ → Call → Type 0
Removes target (Looked other) = ⊥
Removes target (Arrived other came reception) = ⊥
Removes target (Validated other request update exchange) = ⊥
Removes target (Described other request head exchange) = ⊥
Removes target (Answered other method status) = (other ≡ target) × Invalidates method status
Removes target (Removed other) = other ≡ target

-- the stored response came for a request to the target: the origin sent its content, with this status
pub record HasCome (target : List ℕ) (calls : History) (stored : StoredResponse) : Type 0 where
  pub came : StoredResponse
  pub reception : Reception
  pub called : Has calls (Arrived target came reception)
  pub method : stored.method ≡ came.method
  pub request : stored.request ≡ came.request
  pub status : stored.status ≡ came.status
  pub content : stored.content ≡ came.content
