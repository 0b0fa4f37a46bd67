-- What a list of calls lets a store of parts have.
use Rattle.std.specs.Prelude.{[], ◌+◌, ◌∷◌, ◌≡◌, ◌⊎◌, length, List, slice_get, Some, ℕ}
use Rattle.headers.specs.Lines.{Line}
use Rattle.cache_store.specs.{Changes.{IsFront, IsInserted, IsStoredAs, IsToStore}, Contents.{Contents, responses_at}}
use Rattle.cache_store.specs.{Contents.{used, without}, History.Has, declared.limits.Limits.Limits}
use Rattle.cache_store.specs.{declared.parts.extent.Extent.Extent, Parts.{Received.received_extent, Recording.IsTaken}}
use Rattle.{cache_store.specs.Parts.Extents.{size, strong_tag}, cache_policy.specs.Policies.Policy}
use Rattle.cache_rules.specs.{declared.storing.Reception.Reception, Invalidation.Invalidates, Stored.fields_of_stored}
use Rattle.cache_rules.specs.declared.{stored.StoredResponse.StoredResponse, storing.Reception.TheVariants.Complete}

-- a call of a store of parts, with its key
pub data PartCall : Type 0 where
  -- `lookup`
  Looked : List ℕ → PartCall
  -- `record`, with the request and the response as it came from the origin
  Received : List ℕ → StoredResponse → Reception → PartCall
  -- `invalidate`, with the method of the request and the status of the response
  Answered : List ℕ → List ℕ → ℕ → PartCall
  -- `remove`
  Removed : List ℕ → PartCall

-- calls of one store, the latest first
abbrev pub PartHistory : Type 0
PartHistory = List PartCall

module _ (policy : Policy) (limits : Limits) where
  -- What each call makes of what a store has, whether or not it runs out of memory: the contracts of the calls.
  abbrev pub Step : PartCall → Contents → Contents → Type 0
  Step (Looked key) old new = new ≡ used key old
  Step (Received key came reception) old new =
      (new ≡ old) ⊎ (new ≡ without key old) ⊎ IsFront (without key old) new
      ⊎ ((part : StoredResponse) × (stored : StoredResponse)
      × IsTaken policy (responses_at key old) came reception part × IsToStore policy part Complete
      × IsStoredAs part stored × IsInserted limits key stored old new)
  Step (Answered key method status) old new =
      (Invalidates method status × (new ≡ without key old)) ⊎ ((¬ (Invalidates method status)) × (new ≡ old))
  Step (Removed key) old new = new ≡ without key old

  -- after these calls a new store has this
  abbrev pub Run : PartHistory → Contents → Type 0
  Run [] contents = contents ≡ []
  Run (call ∷ calls) contents = (before : Contents) × Run calls before × Step call before contents

module _ (calls : PartHistory) (key : List ℕ) (tag : Line) where
  -- A response with this strong validator was recorded under the key, which is a part of a representation of this
  -- length, and has this byte at this position of it.
  pub record WasReceived (len at byte : ℕ) : Type 0 where
    pub came : StoredResponse
    pub reception : Reception
    pub extent : Extent
    pub offset : ℕ
    pub called : Has calls (Received key came reception)
    pub strong : strong_tag (fields_of_stored came) ≡ Some tag
    pub part : received_extent reception came.status (length came.content) (fields_of_stored came) ≡ Some extent
    pub whole : extent.len ≡ len
    pub position : at ≡ extent.first + offset
    pub same : slice_get came.content offset ≡ Some byte

  -- each byte of these, the first of which is at this position, was received there
  abbrev pub AreReceived : ℕ → ℕ → List ℕ → Type 0
  AreReceived len first bytes = (i byte : ℕ) → slice_get bytes i ≡ Some byte → WasReceived len (first + i) byte

-- The bytes are exactly those of this part of the representation with this strong validator: as many, and each was
-- received at its position.
pub record AreBytesOf (calls : PartHistory) (key : List ℕ) (tag : Line) (part : Extent) (bytes : List ℕ) : Type 0
  where
    pub count : length bytes ≡ size part
    pub each : AreReceived calls key tag part.len part.first bytes
