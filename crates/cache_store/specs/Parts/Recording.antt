-- What a store of parts makes of a received response (RFC 9111, sections 3.3 and 3.4).
use Rattle.std.specs.Prelude.{◌≡◌, ◌⊎◌, codes, List, None, Option, Some, ℕ}
use Rattle.headers.specs.Typed.{HasLine}
use Rattle.cache_store.specs.{Parts.Received.{IsPart, IsRecorded, IsSelfContained}, Changes.{IsInserted, IsStoredAs}}
use Rattle.cache_store.specs.{Contents.{Contents, responses_at, without}, Changes.{IsTooSmallToStore, IsToStore}}
use Rattle.{cache_policy.specs.{Policies.Policy, Requests.Request}, cache_store.specs.Changes.IsTooLarge}
use Rattle.cache_store.specs.{declared.{limits.Limits.Limits, parts.extent.Extent.Extent}, Parts.Extents.extent_fields}
use Rattle.cache_store.specs.declared.parts.{combining.Combined.Combined, store_recording.Recorded.Recorded}
use Rattle.cache_store.specs.declared.parts.store_recording.Recorded.TheVariants.{Once, Stored, Unstored, Whole}
use Rattle.cache_store.specs.Parts.Combining.{AreCombinable, HaveSameTag, IsCombinedAs, IsTooSmallToCombine}
use Rattle.cache_rules.specs.{declared.storing.Reception.{Reception, TheVariants.Complete}, Fields.IsTooSmallFor}
use Rattle.cache_rules.specs.{Stored.{fields_of_stored, request_of_stored}, Selection.{IsCandidate, IsSelected}}
use Rattle.cache_rules.specs.{declared.stored.StoredResponse.StoredResponse, Selection.IsChosen}
use Rattle.cache_store.specs.declared.parts.combining.Combined.TheVariants as combined

-- the stored part that a request selects (RFC 9111, section 4.1), or none
abbrev pub IsSelectedPart : Request → List StoredResponse → Option StoredResponse → Type 0
IsSelectedPart request parts None = IsSelected (IsCandidate request) parts None
IsSelectedPart request parts (Some stored) =
    (place : ℕ) × (found : IsChosen request parts place) × (found.response ≡ stored)

-- the received part and the one that its request selects may be combined
abbrev pub IsCombinable : List StoredResponse → StoredResponse → Reception → Type 0
IsCombinable parts came reception = (stored : StoredResponse) × IsSelectedPart (request_of_stored came) parts
    (Some stored) × ((own : Extent) × (other : Extent) × AreCombinable stored came reception own other)

-- a map is too small for the combination of the received part and the one that its request selects
abbrev pub IsTooSmallToMerge : List StoredResponse → StoredResponse → Reception → Type 0
IsTooSmallToMerge parts came reception = (stored : StoredResponse)
    × IsSelectedPart (request_of_stored came) parts (Some stored) × IsTooSmallToCombine stored came reception

-- a map is too small for the received part: for the fields that say which part it is, or with these as it is stored
abbrev pub IsTooSmallToTake : StoredResponse → Extent → Type 0
IsTooSmallToTake came extent =
    IsTooSmallFor came.response (extent_fields extent)
    ⊎ ((part : StoredResponse) × IsRecorded came extent part × IsTooSmallToStore part)

-- ---- a response that isn't stored

-- the response has content of the representation that its GET selected
pub record IsContent (came : StoredResponse) : Type 0 where
  pub get : came.method ≡ codes "GET"
  pub status : (came.status ≡ 200) ⊎ (came.status ≡ 206)

-- The representation has changed since the stored part came: the response has content of it, and not the strong
-- validator of the part.
pub record Changes (stored came : StoredResponse) : Type 0 where
  pub content : IsContent came
  pub other : ¬ (HaveSameTag stored came)

-- the response shows that the representation of the part that its request selects has changed
abbrev pub IsSuperseded : List StoredResponse → StoredResponse → Type 0
IsSuperseded parts came =
    (stored : StoredResponse) × IsSelectedPart (request_of_stored came) parts (Some stored) × Changes stored came

-- it doesn't, or its request selects none
abbrev pub IsCurrent : List StoredResponse → StoredResponse → Type 0
IsCurrent parts came =
    IsSelectedPart (request_of_stored came) parts None
    ⊎ ((stored : StoredResponse) × IsSelectedPart (request_of_stored came) parts (Some stored)
    × ¬ (Changes stored came))

-- so all that is stored under the key goes, or stays
abbrev pub IsLeft : List ℕ → Contents → StoredResponse → Contents → Type 0
IsLeft key old came new =
    (IsSuperseded (responses_at key old) came × (new ≡ without key old))
    ⊎ (IsCurrent (responses_at key old) came × (new ≡ old))

-- ---- a part

-- the response is the whole representation: no Content-Range says which part of it it is
abbrev pub IsWhole : StoredResponse → Type 0
IsWhole part = ¬ (HasLine (fields_of_stored part (codes "content-range")))

module _ (policy : Policy) (parts : List StoredResponse) (came : StoredResponse) (reception : Reception) where
  -- what becomes of the part that the request selects and the received one; without a selected part they are apart
  abbrev pub IsMerged : Combined → Type 0
  IsMerged result =
      (IsSelectedPart (request_of_stored came) parts None × (result ≡ combined.Apart))
      ⊎ ((stored : StoredResponse) × IsSelectedPart (request_of_stored came) parts (Some stored)
      × IsCombinedAs policy stored came reception result)

  -- The part that is taken of the response: the one that came, if it may have all fields of the representation, or its
  -- combination with the selected one.
  abbrev pub IsTaken : StoredResponse → Type 0
  IsTaken part =
      (extent : Extent) × IsPart policy came reception extent
      × ((IsMerged combined.Apart × IsSelfContained came × IsRecorded came extent part)
      ⊎ IsMerged (combined.Stored part))

  -- no part is taken: the response is none, or may lack fields and isn't combined
  abbrev pub IsNotTaken : Type 0
  IsNotTaken =
      ((extent : Extent) → ¬ (IsPart policy came reception extent))
      ⊎ (IsMerged combined.Apart × ¬ (IsSelfContained came))

  -- Memory is allocated for the response: it is a part that may have all fields of the representation, or that may be
  -- combined with the selected one.
  pub record NeedsMemory : Type 0 where
    pub extent : Extent
    pub part : IsPart policy came reception extent
    pub used : IsSelfContained came ⊎ IsCombinable parts came reception

  -- A map is too small for the fields of a part: of the combination, of the combination as it is stored, or of the
  -- received part, which isn't combined.
  abbrev pub IsTooSmallToRecord : Type 0
  IsTooSmallToRecord =
      IsTooSmallToMerge parts came reception
      ⊎ ((part : StoredResponse) × IsMerged (combined.Stored part) × IsTooSmallToStore part)
      ⊎ ((extent : Extent) × IsPart policy came reception extent × IsMerged combined.Apart
      × IsTooSmallToTake came extent)

module _ (policy : Policy) (limits : Limits) (key : List ℕ) (old : Contents) where
  -- A taken part is stored, as the ordinary store stores a response; or it is the whole, and is returned; or it may not
  -- be stored, or is too large. Where it isn't stored, nothing is under the key any more.
  abbrev pub IsKeptAs : StoredResponse → Contents → Recorded → Type 0
  IsKeptAs part new Unstored =
      (¬ (IsWhole part)) × ((¬ (IsToStore policy part Complete)) ⊎ IsTooLarge limits key part)
      × (new ≡ without key old)
  IsKeptAs part new Stored = (¬ (IsWhole part)) × ((stored : StoredResponse)
      × IsToStore policy part Complete × IsStoredAs part stored × IsInserted limits key stored old new)
  IsKeptAs part new (Whole whole) = IsWhole part × (whole ≡ part) × (new ≡ without key old)
  IsKeptAs part new (Once once) = ⊥

  -- what becomes of a part that isn't combined
  abbrev pub IsTakenAlone : StoredResponse → Extent → Contents → Recorded → Type 0
  IsTakenAlone came extent new recorded =
      ((¬ (IsSelfContained came)) × IsLeft key old came new × (recorded ≡ Unstored))
      ⊎ (IsSelfContained came
      × ((part : StoredResponse) × IsRecorded came extent part × IsKeptAs part new recorded))

  module _ (came : StoredResponse) (reception : Reception) (new : Contents) where
    -- a part is taken of the response, and kept so
    abbrev pub IsTakenAs : Recorded → Type 0
    IsTakenAs recorded =
        (part : StoredResponse) × IsTaken policy (responses_at key old) came reception part × IsKeptAs part new recorded

    -- a part of it is combined with the selected one, and may not be reused
    abbrev pub IsUsedOnce : StoredResponse → Type 0
    IsUsedOnce part = (extent : Extent) × IsPart policy came reception extent
        × IsMerged policy (responses_at key old) came reception (combined.Once part) × (new ≡ without key old)

    -- which facts give each outcome
    abbrev pub IsRecordedAs : Recorded → Type 0
    IsRecordedAs Unstored =
        (IsNotTaken policy (responses_at key old) came reception × IsLeft key old came new) ⊎ IsTakenAs Unstored
    IsRecordedAs Stored = IsTakenAs Stored
    IsRecordedAs (Whole part) = IsTakenAs (Whole part)
    IsRecordedAs (Once part) = IsUsedOnce part
