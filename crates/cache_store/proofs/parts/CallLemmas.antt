-- What the calls of a store of parts return and leave.
use Rattle.std.proofs.Common.{◌∙◌, ◌≡◌, ◌⊎◌, Bool, Err, false, get_or, IfOk, List, Ok, refl, Result, Some, sym, true, ℕ}
use Rattle.std.proofs.{lemmas.Option.{get_or_from_slice_get, same_Some}, Common.{inl, inr, OnErr, subst}}
use Rattle.{cache_rules.specs.Selection.IsChosen, headers.specs.LineMap.Field, std.specs.Bool.MatchBool}
use Rattle.cache_store.specs.{Parts.{History.Step, Received.IsPart}, Numbers.numbered, Changes.IsFront, Lookups.IsFound}
use Rattle.cache_store.specs.declared.{limits.Limits.Limits, parts.store_recording.Recorded.Recorded}
use Rattle.cache_store.specs.{declared.parts.extent.Extent.Extent, Parts.History.PartCall.Received}
use Rattle.cache_store.specs.declared.parts.store_answering.PartLookup.{PartLookup, TheVariants.Forward}
use Rattle.cache_store.specs.declared.parts.store_answering.PartLookup.TheVariants.{Serve, Unavailable}
use Rattle.cache_store.specs.declared.parts.store_recording.Recorded.TheVariants.{Once, Stored, Unstored, Whole}
use Rattle.cache_store.specs.Parts.Answering.{IsAsked, IsDecided, IsLookedUp, IsReuse, IsReused, IsValidation}
use Rattle.cache_store.specs.Parts.Recording.{IsKeptAs, IsMerged, IsRecordedAs, IsSelectedPart, IsTaken, IsTakenAlone}
use Rattle.cache_store.specs.{Contents.{Contents, responses_at, without}, Lookups.IsServed as IsFoundServed}
use Rattle.cache_policy.specs.{declared.decision.Decision.Decision, Policies.Policy, Requests.Request}
use Rattle.cache_rules.specs.declared.{stored.StoredResponse.StoredResponse, storing.Reception.Reception}
use Rattle.cache_policy.specs.declared.decision.Decision.TheVariants as decisions
use Rattle.cache_store.specs.declared.parts.combining.Combined.TheVariants as combined

pub bool_map : {P Q P' Q' : Type 0} (b : Bool) → (P → P') → (Q → Q') → MatchBool b P Q → MatchBool b P' Q'
bool_map true p q h = p h
bool_map false p q h = q h

-- ---- the selected part

pub selected_part : (given request : Request) (all parts : List StoredResponse) (place : ℕ) (one : StoredResponse)
    → given ≡ request → all ≡ parts → one ≡ get_or all place one → IsChosen given all place
    → IsSelectedPart request parts (Some one)
selected_part given request all parts place one asked same is found = subst (λ (q : Request). IsSelectedPart q parts
    (Some one)) asked (subst (λ (ps : List StoredResponse). IsSelectedPart given ps (Some one)) same
    (place, found, sym (get_or_from_slice_get all place found.response one found.at) ∙ sym is))

-- ---- what is recorded

module _ (policy : Policy) (limits : Limits) (key : List ℕ) (old : Contents) (came : StoredResponse)
    (reception : Reception) (new : Contents) where
  abbrev Records : Recorded → Type 0
  Records = IsRecordedAs policy limits key old came reception new

  -- a part that is taken
  pub kept_recorded : (part : StoredResponse) → IsTaken policy (responses_at key old) came reception part
      → (recorded : Recorded) → IsKeptAs policy limits key old part new recorded → Records recorded
  kept_recorded part taken Unstored kept = inr (part, taken, kept)
  kept_recorded part taken (Once once) kept = absurd kept
  kept_recorded part taken other kept = (part, taken, kept)

  -- a part that isn't combined
  pub alone_recorded : (extent : Extent) → IsPart policy came reception extent
      → IsMerged policy (responses_at key old) came reception combined.Apart
      → (recorded : Recorded) → IsTakenAlone policy limits key old came extent new recorded → Records recorded
  alone_recorded extent is apart recorded (inl (lacks, left, same)) =
      subst Records (sym same) (inl (inr (apart, lacks), left))
  alone_recorded extent is apart recorded (inr (has, (part, is_recorded, kept))) =
      kept_recorded part (extent, is, inl (apart, has, is_recorded)) recorded kept

  -- the step of the history
  pub recorded_step : {E : Type 0} (result : Result Recorded E) → IfOk result Records → OnErr result
      ((new ≡ old) ⊎ IsFront (without key old) new) → Step policy limits (Received key came reception) old new
  recorded_step (Ok Unstored) (inl (none, inl (changed, gone))) none_err = inr (inl gone)
  recorded_step (Ok Unstored) (inl (none, inr (current, same))) none_err = inl same
  recorded_step (Ok Unstored) (inr (part, taken, (isnt, why, gone))) none_err = inr (inl gone)
  recorded_step (Ok Stored) (part, taken, (isnt, (stored, may, as_stored, inserted))) none_err =
      inr (inr (inr (part, stored, taken, may, as_stored, inserted)))
  recorded_step (Ok (Whole whole)) (part, taken, (is, same, gone)) none_err = inr (inl gone)
  recorded_step (Ok (Once once)) (extent, is, merged, gone) none_err = inr (inl gone)
  recorded_step (Err error) none (inl same) = inl same
  recorded_step (Err error) none (inr front) = inr (inr (inl front))

-- ---- what is looked up

module _ (policy : Policy) (most : ℕ) (request : Request) (now : ℕ) (parts : List StoredResponse) (number : ℕ) where
  decided_lookup : (lookup : PartLookup) → IsDecided policy most request now parts lookup
      → IsLookedUp policy most request now parts lookup
  decided_lookup Unavailable is = inl is
  decided_lookup Forward is = inl is
  decided_lookup lookup is = is

  -- the selected part may be reused
  module _ (stored : StoredResponse) (age : Field) (at : Some stored ≡ numbered number parts) where
    reused_as : (decision : Decision)
        → IsReuse decision → IsFoundServed policy most request now parts decision number age → (lookup : PartLookup)
        → IsReused request stored now number age lookup → IsLookedUp policy most request now parts lookup
    reused_as decision reuse served lookup is =
        let same = same_Some stored served.found.selected.response (at ∙ served.shown) in
        decided_lookup lookup (record {
          place = served.place;
          decision = decision;
          found = served.found;
          number = number;
          shown = served.shown;
          does = inl (reuse, rw same at (rw served.age at is));
        })

    pub reused_lookup : IsFoundServed policy most request now parts decisions.Serve number age
        ⊎ IsFoundServed policy most request now parts decisions.ServeStale number age → (lookup : PartLookup)
        → IsReused request stored now number age lookup → IsLookedUp policy most request now parts lookup
    reused_lookup (inl served) lookup is = reused_as decisions.Serve (inl refl) served lookup is
    reused_lookup (inr served) lookup is = reused_as decisions.ServeStale (inr refl) served lookup is

  -- the origin is to be asked
  pub asked_lookup : (decision : Decision) → IsValidation decision
      → {place : ℕ} (found : IsFound policy most request now parts decision place) → numbered number parts ≡ Some
      found.selected.response → (lookup : PartLookup) → ((stored : StoredResponse) → numbered number parts ≡ Some stored
      → IsAsked request stored lookup) → IsLookedUp policy most request now parts lookup
  asked_lookup decision validates {place} found shown lookup asks = decided_lookup lookup (record {
    place = place;
    decision = decision;
    found = found;
    number = number;
    shown = shown;
    does = inr (validates, asks found.selected.response shown);
  })
