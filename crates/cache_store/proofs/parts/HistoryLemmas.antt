-- What a store of parts has after any calls was received.
use Rattle.std.proofs.Common.{◌+◌, ◌∙◌, ◌≡◌, arith, codes, IsSome, IsSomeAnd, length, List, Option, slice_get, subst, ℕ}
use Rattle.{cache_policy.specs.{Policies.Policy, Requests.Request}, std.proofs.Common.{[], ◌-◌, ap, nat_le, refl, Some}}
use Rattle.std.proofs.{lemmas.{Bool.{and_parts, Decides.nat_tests}, Option.same_Some}, Common.{◌∷◌, ◌≤◌, inl, inr, sym}}
use Rattle.{cache_store.specs.declared.{limits.Limits.Limits, parts.extent.Extent.Extent}, headers.specs.Lines.Line}
use Rattle.cache_store.proofs.HistoryLemmas.{Has-slice_get, HasUnder-responses_at, run-justified}
use Rattle.cache_store.{proofs.NumberLemmas.Has-numbered, specs.declared.parts.store_answering.PartAnswer.PartAnswer}
use Rattle.cache_store.proofs.parts.ByteLemmas.{all-joined, all-within, AllAt, length-joined, length-within}
use Rattle.cache_store.proofs.parts.FieldLemmas.{combined-range, IsPartOf, received-is, recorded-says, tags-same}
use Rattle.cache_store.proofs.parts.FieldLemmas.{combined-tag, extent-is, extent-stored, recorded-range, tag-stored}
use Rattle.cache_store.proofs.parts.FieldLemmas.{joint-is, recorded-tag, recorded_lines, some-tag, whole-lines}
use Rattle.cache_store.specs.{Parts.Combining.{AreCombinable, Holds, IsCombination}, Changes.IsStoredAs}
use Rattle.cache_store.specs.{Parts.Extents.{joint, strong_tag}, Numbers.numbered, History.{Has, History, IsJustified}}
use Rattle.cache_store.specs.declared.parts.store_answering.PartLookup.TheVariants.{Serve}
use Rattle.cache_store.specs.Parts.{History.PartCall.{Answered, Received, Removed}, Answering.{HasBytesAt, IsLookedUp}}
use Rattle.cache_store.specs.Parts.{Recording.{IsTaken, IsWhole}, Answers.{HasBytes, IsPartAnswer}, History.AreReceived}
use Rattle.cache_store.specs.{Parts.Received.{IsRecorded, received_extent}, Contents.{Contents, responses_at, without}}
use Rattle.cache_store.specs.Parts.History.{AreBytesOf, PartCall, PartCall.Looked, PartHistory, Run, Step, WasReceived}
use Rattle.cache_store.specs.History.{Run as StoreRun, Call.{Arrived, Looked as StoreLooked, Removed as StoreRemoved}}
use Rattle.cache_rules.specs.{declared.stored.StoredResponse.StoredResponse, Stored.fields_of_stored}
use Rattle.cache_rules.specs.declared.storing.Reception.{Reception, TheVariants.{Complete, Incomplete}}

-- what was received before a call was received before it
earlier : (call : PartCall) (calls : PartHistory) (key : List ℕ) (tag : Line) (len at byte : ℕ)
    → WasReceived calls key tag len at byte → WasReceived (call ∷ calls) key tag len at byte
earlier call calls key tag len at byte was = record {
  came = was.came;
  reception = was.reception;
  extent = was.extent;
  offset = was.offset;
  called = inr was.called;
  strong = was.strong;
  part = was.part;
  whole = was.whole;
  position = was.position;
  same = was.same;
}

module _ (calls : PartHistory) (key : List ℕ) where
  -- If the stored response is a part with a strong validator, all its bytes were received.
  abbrev pub IsFaithful : StoredResponse → Type 0
  IsFaithful stored = (tag : Line) (own : Extent) → strong_tag (fields_of_stored stored) ≡ Some tag
      → Holds stored own → AreReceived calls key tag own.len own.first stored.content

  -- Which part a response is that is taken, and that all its bytes were received.
  pub record IsTraced (part : StoredResponse) : Type 0 where
    pub extent : Extent
    pub tag : Line
    pub strong : strong_tag (fields_of_stored part) ≡ Some tag
    pub is : IsPartOf extent (length part.content)
    pub lines : fields_of_stored part (codes "content-range") ≡ recorded_lines extent
    pub each : AreReceived calls key tag extent.len extent.first part.content

  faithful : (part : StoredResponse) → IsTraced part → IsFaithful part
  faithful part traced tag own strong holds = let same = recorded-says
      (fields_of_stored part) traced.extent own (length part.content) traced.is traced.lines holds.extent in
      let tags : traced.tag ≡ tag = same_Some traced.tag tag (sym traced.strong ∙ strong) in
      subst (λ (t : Line). AreReceived calls key t own.len own.first part.content) tags (rw (← same) at traced.each)

  -- the ordinary store changes neither the content nor what these fields say
  faithful-stored : (part stored : StoredResponse) → IsStoredAs part stored → IsFaithful part → IsFaithful stored
  faithful-stored part stored kept is tag own strong holds =
      let held : Holds part own = record {
        extent = extent-stored _ _ kept own holds.extent;
        bytes = ap length (sym kept.content) ∙ holds.bytes;
      } in
      rw (sym kept.content) at (is tag own (tag-stored _ _ kept tag strong) held)

module _ (calls : PartHistory) (key : List ℕ) (came : StoredResponse) (reception : Reception) (extent : Extent)
    (received : received_extent reception came.status (length came.content) (fields_of_stored came)
    ≡ Some extent) where
  abbrev now_calls : PartHistory
  now_calls = Received key came reception ∷ calls

  -- the bytes that came were received
  came-received : (tag : Line) (len : ℕ) → strong_tag (fields_of_stored came) ≡ Some tag → extent.len ≡ len
      → AreReceived now_calls key tag len extent.first came.content
  came-received tag len strong whole i byte h = record {
    came = came;
    reception = reception;
    extent = extent;
    offset = i;
    called = inl refl;
    strong = strong;
    part = received;
    whole = whole;
    position = refl;
    same = h;
  }

  came-is : IsPartOf extent (length came.content)
  came-is = received-is reception came.status (length came.content) (fields_of_stored came) extent received

  -- a part that is taken by itself
  traced-recorded : (part : StoredResponse) → IsSome (strong_tag (fields_of_stored came))
      → IsRecorded came extent part → IsTraced now_calls key part
  traced-recorded part strong is =
      let tag = some-tag (strong_tag (fields_of_stored came)) strong in
      record {
        extent = extent;
        tag = tag.0;
        strong = recorded-tag came part extent is ∙ tag.1;
        is = subst (λ c. IsPartOf extent (length c)) (sym is.content) came-is;
        lines = recorded-range came part extent is;
        each = subst (λ c. AreReceived now_calls key tag.0 extent.len extent.first c) (sym is.content)
            (came-received tag.0 extent.len tag.1 refl);
      }

  -- a combination with a stored part
  traced-combined : (stored fresh part : StoredResponse) (own : Extent) → IsFaithful calls key stored
      → AreCombinable stored came reception own extent → IsCombination stored came own extent fresh part
      → IsSome (strong_tag (fields_of_stored came)) → IsTraced now_calls key part
  traced-combined stored fresh part own is may by strong =
      let tag = some-tag (strong_tag (fields_of_stored came)) strong in
      let stored_tag = sym (tags-same stored came may.suit.tag) ∙ tag.1 in
      let old = stored.content in
      let own_is = extent-is (fields_of_stored stored) own may.stored_part.extent in
      let before : AllAt (WasReceived now_calls key tag.0 own.len) own.first old = λ i byte h.
      earlier (Received key came reception) calls key tag.0 own.len (own.first + i) byte
      (is tag.0 own stored_tag may.stored_part i byte h) in
      let count = length-joined own extent old came.content own_is.ordered came-is.ordered may.stored_part.bytes
      came-is.size may.suit.touch in
      record {
        extent = joint own extent;
        tag = tag.0;
        strong = combined-tag stored came fresh part own extent by may.suit.tag ∙ tag.1;
        is = rw (← (ap length by.extended.content ∙ count)) at
            (joint-is own extent (own.last + 1 - own.first) (length came.content) own_is came-is may.suit.whole);
        lines = combined-range stored came fresh part own extent by;
        each = rw (← by.extended.content) at (all-joined (WasReceived now_calls key tag.0 own.len) own extent old
            came.content own_is.ordered came-is.ordered may.stored_part.bytes came-is.size may.suit.touch before
            (came-received tag.0 own.len tag.1 (sym may.suit.whole)));
      }

module _ (policy : Policy) (limits : Limits) where
  -- What a store has after these calls is what a store has after calls of the ordinary store, and what those justify
  -- was received.
  pub record IsKnown (calls : PartHistory) (contents : Contents) : Type 0 where
    pub history : History
    pub ran : StoreRun policy limits history contents
    pub traced : (key : List ℕ) (stored : StoredResponse) → IsJustified policy key history stored
        → IsFaithful calls key stored

  -- a stored part is faithful
  pub faithful-has : (calls : PartHistory) (contents : Contents) → IsKnown calls contents → (key : List ℕ)
      (stored : StoredResponse) → Has (responses_at key contents) stored → IsFaithful calls key stored
  faithful-has calls contents known key stored has = known.traced key stored
      (run-justified policy limits known.history contents known.ran key stored (HasUnder-responses_at _ _ _ has))

  -- a part that is taken
  pub traced-taken : (calls : PartHistory) (contents : Contents) → IsKnown calls contents
      → (key : List ℕ) (came : StoredResponse) (reception : Reception) (part : StoredResponse) → IsTaken policy
      (responses_at key contents) came reception part → IsTraced (Received key came reception ∷ calls) key part
  traced-taken calls contents known key came reception part (extent, is, inl (apart, self_contained, recorded)) =
      traced-recorded calls key came reception extent is.received part is.strong recorded
  traced-taken calls contents known key came reception part (extent, is, inr (inl (none, never))) = absurd (cc never)
  traced-taken calls contents known key came reception part
      (extent, is, inr (inr (stored, (place, found, same), (own, other, fresh, may, by, fits)))) =
      let at : slice_get (responses_at key contents) place ≡ Some stored = found.at ∙ ap Some same in
      traced-combined calls key came reception other may.new_part stored fresh part own
      (faithful-has calls contents known key stored (Has-slice_get _ _ _ at)) may by is.strong

  module _ (calls : PartHistory) (old new : Contents) (known : IsKnown calls old) where
    -- what stays was received before the call
    later : (call : PartCall) (key : List ℕ) (stored : StoredResponse) → IsFaithful calls key stored
        → IsFaithful (call ∷ calls) key stored
    later call key stored is tag own strong holds i byte h = earlier _ _ _ _ _ _ _ (is tag own strong holds i byte h)

    known-by : (call : PartCall) (history : History) → StoreRun policy limits history new
        → ((key : List ℕ) (stored : StoredResponse) → IsJustified policy key history stored
        → IsJustified policy key known.history stored) → IsKnown (call ∷ calls) new
    known-by call history ran was = record {
      history = history;
      ran = ran;
      traced = λ key stored j. later call key stored (known.traced key stored (was key stored j));
    }

    same-known : (call : PartCall) → new ≡ old → IsKnown (call ∷ calls) new
    same-known call same = known-by call known.history
        (subst (StoreRun policy limits known.history) (sym same) known.ran) (λ key stored j. j)

    removed-known : (call : PartCall) (key : List ℕ) → new ≡ without key old → IsKnown (call ∷ calls) new
    removed-known call key left =
        known-by call (StoreRemoved key ∷ known.history) (old, known.ran, left) (λ other stored j. j.1)

    received-known : (key : List ℕ) (came : StoredResponse) (reception : Reception)
        → Step policy limits (Received key came reception) old new → IsKnown (Received key came reception ∷ calls) new
    received-known key came reception (inl same) = same-known (Received key came reception) same
    received-known key came reception (inr (inl left)) = removed-known (Received key came reception) key left
    -- out of memory after the removal, as if a response had come that isn't complete
    received-known key came reception (inr (inr (inl front))) = record {
      history = Arrived key came Incomplete ∷ known.history;
      ran = (old, known.ran, inr (inr front));
      traced = λ other stored j. traced_before other stored j;
    }
      where
        traced_before : (other : List ℕ) (stored : StoredResponse) → IsJustified policy other (Arrived
            key came Incomplete ∷ known.history) stored → IsFaithful (Received key came reception ∷ calls) other stored
        traced_before other stored (inl j) =
            later (Received key came reception) other stored (known.traced other stored j)
        traced_before other stored (inr (same, to_store, kept)) = absurd (cc to_store.whole)
    received-known key came reception (inr (inr (inr (part, one, taken, may, as_stored, inserted)))) = record {
      history = Arrived key part Complete ∷ known.history;
      ran = (old, known.ran, inr (inl (one, may, as_stored, inserted)));
      traced = λ other stored j. traced_by other stored j;
    }
      where
        traced_by : (other : List ℕ) (stored : StoredResponse) → IsJustified policy other (Arrived
            key part Complete ∷ known.history) stored → IsFaithful (Received key came reception ∷ calls) other stored
        traced_by other stored (inl j) = later (Received key came reception) other stored (known.traced other stored j)
        traced_by other stored (inr (same, to_store, kept)) = subst (λ (k : List ℕ). IsFaithful
            (Received key came reception ∷ calls) k stored) same (faithful-stored (Received key came reception ∷ calls)
            key part stored kept (faithful (Received key came reception ∷ calls) key part
            (traced-taken calls old known key came reception part taken)))

    step-known : (call : PartCall) → Step policy limits call old new → IsKnown (call ∷ calls) new
    step-known (Looked key) change =
        known-by (Looked key) (StoreLooked key ∷ known.history) (old, known.ran, change) (λ other stored j. j)
    step-known (Received key came reception) change = received-known key came reception change
    step-known (Answered key method status) (inl (is, left)) = removed-known (Answered key method status) key left
    step-known (Answered key method status) (inr (isnt, same)) = same-known (Answered key method status) same
    step-known (Removed key) left = removed-known (Removed key) key left

  pub run-known : (calls : PartHistory) (contents : Contents) → Run policy limits calls contents
      → IsKnown calls contents
  run-known [] contents none = record { history = []; ran = none; traced = λ key stored j. absurd j }
  run-known (call ∷ calls) contents (before, ran, change) =
      step-known calls before contents (run-known calls before ran) call change

  -- ---- what is served

  module _ (calls : PartHistory) (contents : Contents) (ran : Run policy limits calls contents) (key : List ℕ) where
    -- the bytes of a part of a stored one
    bytes-of : (number : ℕ) (part : Extent) (stored : StoredResponse) (tag : Line) (bytes : List ℕ)
        → numbered number (responses_at key contents) ≡ Some stored → strong_tag (fields_of_stored stored) ≡ Some tag
        → HasBytes stored part bytes → AreBytesOf calls key tag part bytes
    bytes-of number part stored tag bytes at strong (own, holds, within, same) =
        let known = run-known calls contents ran in
        let all = faithful-has calls contents known key stored (Has-numbered _ _ _ at).0 tag own strong holds in
        record {
          count = ap length same ∙ length-within _ _ _ within holds.bytes;
          each = rw (← within.len) at (rw (← same) at
              (all-within (WasReceived calls key tag own.len) own part stored.content within all));
        }

    answered-tag : (request : Request) (stored : StoredResponse) (now : ℕ) (part : Extent)
        → IsPartAnswer request stored now (Some part) → (tag : Line) × (strong_tag (fields_of_stored stored) ≡ Some tag)
    answered-tag request stored now part (inl none) = absurd (cc none.1)
    answered-tag request stored now part (inr (extent, plan, may, planned, is)) = some-tag _ may.strong

    pub served_received : (most : ℕ) (request : Request) (now : ℕ) (answer : PartAnswer) (bytes : List ℕ)
        → IsLookedUp policy most request now (responses_at key contents) (Serve answer)
        → HasBytesAt (responses_at key contents) answer.number answer.part bytes
        → (stored : StoredResponse) × (tag : Line) × (numbered answer.number (responses_at key contents) ≡ Some stored)
        × (strong_tag (fields_of_stored stored) ≡ Some tag) × AreBytesOf calls key tag answer.part bytes
    served_received most request now answer bytes is has = elim is.does [
      | inl answers ↦
          let served = answers.1 in
          let stored = is.found.selected.response in
          let at : numbered answer.number (responses_at key contents) ≡ Some stored =
          ap (λ n. numbered n (responses_at key contents)) served.number_is ∙ is.shown in
          let tag = answered-tag request stored now answer.part served.part in
          let has_bytes : HasBytes stored answer.part bytes =
          subst (λ (o : Option StoredResponse). IsSomeAnd o (λ s. HasBytes s answer.part bytes)) at has in (
            stored,
            tag.0,
            at,
            tag.1,
            bytes-of answer.number answer.part stored tag.0 bytes at tag.1 has_bytes,
          )
      | inr asks ↦ absurd asks.1
    ]

    -- a whole that is taken
    pub whole_received : (came : StoredResponse) (reception : Reception) (part : StoredResponse)
        → IsTaken policy (responses_at key contents) came reception part → IsWhole part
        → (tag : Line) × (strong_tag (fields_of_stored part) ≡ Some tag)
        × AreReceived (Received key came reception ∷ calls) key tag (length part.content) 0 part.content
    whole_received came reception part taken whole =
        let t = traced-taken calls contents (run-known calls contents ran) key came reception part taken in
        let all = whole-lines t.extent (fields_of_stored part (codes "content-range")) t.lines whole in
        let one = and_parts (nat_le t.extent.first 0) (nat_le t.extent.len (t.extent.last + 1)) all in
        let start : t.extent.first ≡ 0 = grind (arith, one.0, nat_tests) in
        let end : t.extent.len ≤ t.extent.last + 1 = grind (arith, one.1, nat_tests) in
        let count : t.extent.len ≡ length part.content = omega (arith, start, end, t.is.within, t.is.size) in (
          t.tag,
          t.strong,
          rw start at (rw count at t.each),
        )
