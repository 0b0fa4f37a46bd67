-- How a received part and a stored one are combined (RFC 9111, section 3.4; RFC 9110, section 15.3.7.3).
use Rattle.std.specs.Prelude.{◌≡◌, ◌⊎◌, IsSomeAnd, length, List, Some, ℕ}
use Rattle.headers.specs.LineMap.{Field, set_all}
use Rattle.{cache_policy.specs.{Policies.Policy, Updating.IsUpdated}, cache_rules.specs.Fields.IsTooSmallFor}
use Rattle.cache_rules.specs.declared.{freshening.Exchange.Exchange, storing.Reception.Reception}
use Rattle.cache_rules.specs.{declared.stored.StoredResponse.StoredResponse, Freshening.{IsFreshened, IsReusable}}
use Rattle.cache_rules.specs.{Freshening.renewing_fields, Stored.{fields_of_stored, request_of_stored}}
use Rattle.cache_store.specs.Parts.Extents.{extent_fields, extent_in, joined, joint, size, strong_tag, Touch}
use Rattle.cache_store.specs.{declared.parts.combining.Combined.Combined, Parts.Received.received_extent}
use Rattle.cache_store.specs.declared.parts.{combining.Combined.TheVariants.{Apart, Once, Stored}, extent.Extent.Extent}

-- both have the same strong validator (RFC 9110, section 8.8.1)
abbrev pub HaveSameTag : StoredResponse → StoredResponse → Type 0
HaveSameTag stored came =
    IsSomeAnd (strong_tag (fields_of_stored stored)) (λ tag. strong_tag (fields_of_stored came) ≡ Some tag)

-- the stored response is this part, and has all of its bytes
pub record Holds (stored : StoredResponse) (own : Extent) : Type 0 where
  pub extent : extent_in (fields_of_stored stored) ≡ Some own
  pub bytes : length stored.content ≡ size own

-- These parts suit each other: they have the same strong validator, they are of a whole of the same length, and no
-- position lies between them. It is known which fields of the new one are those of the connection.
pub record Suit (stored came : StoredResponse) (own other : Extent) : Type 0 where
  pub tag : HaveSameTag stored came
  pub whole : own.len ≡ other.len
  pub touch : Touch own other
  pub about : IsUpdated (fields_of_stored stored) (fields_of_stored came)

-- a stored part and a new one may be combined
pub record AreCombinable (stored came : StoredResponse) (reception : Reception) (own other : Extent) : Type 0 where
  pub stored_part : Holds stored own
  pub new_part : received_extent reception came.status (length came.content) (fields_of_stored came) ≡ Some other
  pub suit : Suit stored came own other

-- a copy of a stored response without its content
pub record IsHeadOfStored (stored head : StoredResponse) : Type 0 where
  pub method : head.method ≡ stored.method
  pub request : head.request ≡ stored.request
  pub status : head.status ≡ stored.status
  pub response : head.response ≡ stored.response
  pub requested : head.requested ≡ stored.requested
  pub received : head.received ≡ stored.received

-- the times of a new response
abbrev pub exchange_of : StoredResponse → Exchange
exchange_of came = record { requested = came.requested; received = came.received }

-- the response with this content, and these fields in place of its own
pub record IsExtended (fresh : StoredResponse) (bytes : List ℕ) (changes : List Field) (new : StoredResponse) : Type 0
  where
    pub method : new.method ≡ fresh.method
    pub request : new.request ≡ fresh.request
    pub status : new.status ≡ fresh.status
    pub requested : new.requested ≡ fresh.requested
    pub received : new.received ≡ fresh.received
    pub content : new.content ≡ bytes
    pub fields : (name : List ℕ) → fields_of_stored new name ≡ set_all (fields_of_stored fresh) changes name

-- The combination: the fields of the new response update those of the stored one (RFC 9111, section 3.2), and it has
-- the bytes of both.
pub record IsCombination (stored came : StoredResponse) (own other : Extent) (fresh combined : StoredResponse) : Type 0
  where
    pub freshened : IsFreshened stored (fields_of_stored came) (exchange_of came) fresh
    pub extended : IsExtended fresh (joined own stored.content other came.content)
        (extent_fields (joint own other)) combined

-- A map is too small for the combination: that of the stored part for the fields of the new one, or with these for the
-- fields that say which part the combination is.
abbrev pub IsTooSmallToCombine : StoredResponse → StoredResponse → Reception → Type 0
IsTooSmallToCombine stored came reception =
    IsTooSmallFor stored.response (renewing_fields came.received came.response)
    ⊎ ((own : Extent) × (other : Extent) × (fresh : StoredResponse) × AreCombinable stored came reception own other
    × IsFreshened stored (fields_of_stored came) (exchange_of came) fresh
    × IsTooSmallFor fresh.response (extent_fields (joint own other)))

module _ (policy : Policy) (stored came : StoredResponse) (reception : Reception) where
  -- They are combined so. The updated fields allow the reuse, or forbid it.
  abbrev pub IsCombinedTo : (StoredResponse → Type 0) → StoredResponse → Type 0
  IsCombinedTo Fits combined = (own : Extent) × (other : Extent) × (fresh : StoredResponse)
      × AreCombinable stored came reception own other × IsCombination stored came own other fresh combined × Fits fresh

  -- which facts give each outcome
  abbrev pub IsCombinedAs : Combined → Type 0
  IsCombinedAs Apart = (own other : Extent) → ¬ (AreCombinable stored came reception own other)
  IsCombinedAs (Stored combined) = IsCombinedTo
      (IsReusable policy (fields_of_stored stored) (request_of_stored came) (fields_of_stored came)) combined
  IsCombinedAs (Once combined) = IsCombinedTo (λ fresh. ¬
      (IsReusable policy (fields_of_stored stored) (request_of_stored came) (fields_of_stored came) fresh)) combined
