-- Which responses memory is allocated for.
use Rattle.std.proofs.Common.{◌∙◌, ◌≡◌, ◌⊎◌, ap, inl, inr, List, OnErr, Result, slice_get, Some, sym, ℕ}
use Rattle.{headers_map.proofs.InsertLemmas.OnErr-from, std.proofs.lemmas.{Option.same_Some, Result.on_err_weaker}}
use Rattle.cache_store.specs.{declared.limits.Limits.Limits, Contents.{Contents, responses_at}, Parts.Received.IsPart}
use Rattle.cache_store.specs.declared.parts.{extent.Extent.Extent, store_recording.Recorded.TheVariants.Once}
use Rattle.cache_store.specs.declared.parts.store_recording.Recorded.{Recorded, TheVariants.{Stored, Unstored, Whole}}
use Rattle.cache_store.specs.Parts.{Received.IsSelfContained, Recording.IsRecordedAs}
use Rattle.cache_store.specs.Parts.Recording.{IsCombinable, IsMerged, IsNotTaken, IsSelectedPart, IsTaken, NeedsMemory}
use Rattle.{cache_rules.proofs.SelectionLemmas.one_choice, cache_policy.specs.{Policies.Policy, Requests.Request}}
use Rattle.cache_rules.specs.declared.{stored.StoredResponse.StoredResponse, storing.Reception.Reception}
use Rattle.cache_store.specs.declared.parts.combining.Combined.TheVariants as combined

-- a request selects one part
selected_same : (request : Request) (parts : List StoredResponse) (one other : StoredResponse)
    → IsSelectedPart request parts (Some one) → IsSelectedPart request parts (Some other) → one ≡ other
selected_same request parts one other (place, found, is) (place_too, found_too, is_too) = let places : place
    ≡ place_too = same_Some place place_too (one_choice request parts (Some place) (Some place_too) found found_too) in
    let responses : found.response ≡ found_too.response = same_Some found.response found_too.response
    (sym found.at ∙ ap (slice_get parts) places ∙ found_too.at) in sym is ∙ responses ∙ is_too

module _ (policy : Policy) (parts : List StoredResponse) (came : StoredResponse) (reception : Reception) where
  abbrev Needs : Type 0
  Needs = NeedsMemory policy parts came reception

  -- a part that is combined could be
  pub stored_combinable : (part : StoredResponse) → IsMerged policy parts came reception (combined.Stored part)
      → IsCombinable parts came reception
  stored_combinable part (inl (none, never)) = absurd (cc never)
  stored_combinable part (inr (stored, selected, (own, other, fresh, may, by, fits))) =
      (stored, selected, (own, other, may))

  once_combinable : (part : StoredResponse) → IsMerged policy parts came reception (combined.Once part)
      → IsCombinable parts came reception
  once_combinable part (inl (none, never)) = absurd (cc never)
  once_combinable part (inr (stored, selected, (own, other, fresh, may, by, unfit))) =
      (stored, selected, (own, other, may))

  -- one that isn't couldn't be
  apart_uncombinable : IsMerged policy parts came reception combined.Apart → ¬ (IsCombinable parts came reception)
  apart_uncombinable (inl (none, same)) (stored, (place, found, is), may) =
      none place found.response found.at found.is.0
  apart_uncombinable (inr (one, selected, never)) (stored, selected_too, (own, other, may)) =
      let same = selected_same _ _ _ _ selected_too selected in never own other (rw same at may)

  -- ---- a call that fails

  module _ (extent : Extent) (is : IsPart policy came reception extent) where
    needs_for : IsSelfContained came ⊎ IsCombinable parts came reception → Needs
    needs_for used = record { extent = extent; part = is; used = used }

    pub alone_needs : {A E : Type 0} (result : Result A E) → OnErr result (IsSelfContained came) → OnErr result Needs
    alone_needs result fails = on_err_weaker result (λ has. needs_for (inl has)) fails

    pub combined_needs : {A E : Type 0} (result : Result A E) → IsCombinable parts came reception → OnErr result Needs
    combined_needs result may = OnErr-from result (needs_for (inr may))

  -- ---- what is taken

  pub untaken_needs_none : IsNotTaken policy parts came reception → ¬ Needs
  untaken_needs_none (inl isnt) needs = isnt needs.extent needs.part
  untaken_needs_none (inr (apart, lacks)) needs = elim needs.used [
    | inl has ↦ lacks has
    | inr may ↦ apart_uncombinable apart may
  ]

  taken_needs : (part : StoredResponse) → IsTaken policy parts came reception part → Needs
  taken_needs part (extent, is, inl (apart, has, recorded)) = needs_for extent is (inl has)
  taken_needs part (extent, is, inr merged) = needs_for extent is (inr (stored_combinable part merged))

-- each outcome is of a response that isn't taken, or needs memory
pub recorded_needs : (policy : Policy) (limits : Limits) (key : List ℕ) (old new : Contents) (came : StoredResponse)
    (reception : Reception) (recorded : Recorded) → IsRecordedAs policy limits key old came reception new recorded
    → IsNotTaken policy (responses_at key old) came reception ⊎ NeedsMemory policy (responses_at key old) came reception
recorded_needs policy limits key old new came reception Unstored (inl (none, left)) = inl none
recorded_needs policy limits key old new came reception Unstored (inr (part, taken, kept)) =
    inr (taken_needs policy (responses_at key old) came reception part taken)
recorded_needs policy limits key old new came reception Stored (part, taken, kept) =
    inr (taken_needs policy (responses_at key old) came reception part taken)
recorded_needs policy limits key old new came reception (Whole whole) (part, taken, kept) =
    inr (taken_needs policy (responses_at key old) came reception part taken)
recorded_needs policy limits key old new came reception (Once once) (extent, is, merged, left) =
    inr (needs_for policy (responses_at key old) came reception extent is
    (inr (once_combinable policy (responses_at key old) came reception once merged)))
