-- What updated fields and joined bytes make of a stored part.
use Rattle.{headers.specs.LineMap.{Field, LineMap, lines_at}, std.proofs.Common.{◌∙◌, ◌≡◌, ap, inr, List, subst, sym}}
use Rattle.{cache_policy.specs.{Freshening.freshened, Policies.Policy, Requests.Request}, std.proofs.Common.{refl, ℕ}}
use Rattle.{http_header.specs.{FieldValue.FieldValue, HeaderMap.Entries}, cache_rules.specs.Stored.request_of_stored}
use Rattle.cache_rules.specs.{declared.freshening.Exchange.Exchange, Fields.IsTooSmallFor, Stored.fields_of_stored}
use Rattle.cache_rules.specs.Freshening.{aged_anew, IsForOthers, IsFreshened, IsReusable, MayBeReused}
use Rattle.cache_rules.specs.declared.{stored.StoredResponse.StoredResponse, storing.Reception.Reception}
use Rattle.cache_store.specs.Parts.{Extents.{extent_fields, joined, joint}, Combining.{AreCombinable, IsHeadOfStored}}
use Rattle.cache_store.specs.Parts.Combining.{exchange_of, IsCombination, IsCombinedAs, IsExtended, IsTooSmallToCombine}
use Rattle.cache_store.specs.declared.parts.{combining.Combined.TheVariants.{Once, Stored}, extent.Extent.Extent}

-- the response with the content of another one
abbrev with_content_of : StoredResponse → StoredResponse → StoredResponse
with_content_of stored fresh = record fresh { content = stored.content }

freshened-whole : (stored head fresh : StoredResponse) (update : LineMap) (exchange : Exchange) → IsHeadOfStored stored
    head → IsFreshened head update exchange fresh → IsFreshened stored update exchange (with_content_of stored fresh)
freshened-whole stored head fresh update exchange is by = record {
  method = by.method ∙ is.method;
  request = by.request ∙ is.request;
  status = by.status ∙ is.status;
  content = refl;
  requested = by.requested;
  received = by.received;
  fields = λ name. by.fields name ∙ ap (λ (r : Entries FieldValue). freshened (aged_anew exchange.received (lines_at
      r)) update name) is.response;
}

-- the map of the updated part is too small for the fields of the combination
pub fresh_too_small : (stored came head fresh : StoredResponse) (reception : Reception) (own other : Extent)
    (exchange : Exchange) (changes : List Field) → AreCombinable stored came reception own other → IsHeadOfStored stored
    head → exchange ≡ exchange_of came → changes ≡ extent_fields (joint own other) → IsFreshened head (fields_of_stored
    came) exchange fresh → IsTooSmallFor fresh.response changes → IsTooSmallToCombine stored came reception
fresh_too_small stored came head fresh reception own other exchange changes may is_head is_exchange is_changes by
    small = inr (
      own,
      other,
      with_content_of stored fresh,
      may,
      freshened-whole _ _ _ _ _ is_head (rw is_exchange at by),
      rw is_changes at small,
    )

module _ (policy : Policy) (stored came head fresh combined : StoredResponse) (reception : Reception)
    (own other : Extent) (request : Request) (exchange : Exchange) (bytes : List ℕ) (changes : List Field)
    (may : AreCombinable stored came reception own other) (is_head : IsHeadOfStored stored head)
    (is_request : request ≡ request_of_stored came) (is_exchange : exchange ≡ exchange_of came)
    (is_bytes : bytes ≡ joined own stored.content other came.content)
    (is_changes : changes ≡ extent_fields (joint own other)) (extended : IsExtended fresh bytes changes combined)
    (by : IsFreshened head (fields_of_stored came) exchange fresh) where
  abbrev whole : StoredResponse
  whole = with_content_of stored fresh

  is-combination : IsCombination stored came own other whole combined
  is-combination = let is_extended : IsExtended fresh (joined own stored.content other came.content)
      (extent_fields (joint own other)) combined = rw is_changes at (rw is_bytes at extended) in
      record { freshened = freshened-whole _ _ _ _ _ is_head (rw is_exchange at by); extended = assumption is_extended }

  -- the content of the stored part changes nothing
  own-reusable : IsReusable policy (fields_of_stored head) request (fields_of_stored came) fresh
      → IsReusable policy (fields_of_stored stored) (request_of_stored came) (fields_of_stored came) whole
  own-reusable is =
      let asked = subst (λ (r : Request). MayBeReused policy r (fields_of_stored came) fresh) is_request is.1 in (
        subst (λ (r : Entries FieldValue). IsForOthers policy (lines_at r) (fields_of_stored came)) is_head.response
            is.0,
        assumption asked,
      )

  reusable-before : IsReusable policy (fields_of_stored stored) (request_of_stored came) (fields_of_stored came) whole
      → IsReusable policy (fields_of_stored head) request (fields_of_stored came) fresh
  reusable-before is = (
    subst (λ (r : Entries FieldValue). IsForOthers policy (lines_at r) (fields_of_stored came)) (sym is_head.response)
        is.0,
    subst (λ (r : Request). MayBeReused policy r (fields_of_stored came) fresh) (sym is_request) (assumption is.1),
  )

  pub reusable : IsReusable policy (fields_of_stored head) request (fields_of_stored came) fresh
      → IsCombinedAs policy stored came reception (Stored combined)
  reusable fits = (own, other, whole, may, is-combination, own-reusable fits)

  pub unusable : ¬ (IsReusable policy (fields_of_stored head) request (fields_of_stored came) fresh)
      → IsCombinedAs policy stored came reception (Once combined)
  unusable unfit = (own, other, whole, may, is-combination, λ fits. unfit (reusable-before fits))
