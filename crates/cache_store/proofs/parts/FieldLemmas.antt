-- What the fields of stored parts say of them.
use Rattle.std.proofs.Common.{◌&&◌, ◌∙◌, ◌≡◌, ◌≢◌, ◌⊎◌, arith, Bool, codes, cond, IsSome, List, nat_lt, not, Some, true}
use Rattle.std.proofs.Common.{[], ◌==◌, ap, false, get_or, if◌then◌else◌, IsSomeAnd, length, nat_le, Option, subst, ℕ}
use Rattle.std.proofs.{Common.{◌+◌, ◌-◌, ◌<◌, ◌^◌, ◌∷◌, ◌≤◌, inl, inr, None, refl, sym}, lemmas.Bool.cases_Bool}
use Rattle.std.proofs.lemmas.{Bool.{and_parts, Decides.nat_tests}, Option.{cond_some, none-some}}
use Rattle.{cache_policy.specs.{Updating.is_weak, Freshening.{freshened, is_kept}}, std.specs.Option.option_and_then}
use Rattle.headers.specs.{EntityTag.is_tag, LineMap.LineMap, ContentBytes.{content_bytes, ContentBytes, FitsContent}}
use Rattle.{cache_store.specs.Changes.IsStoredAs, headers.specs.{Lines.{Line, only_line}, Typed.HasLine}}
use Rattle.{cache_store.specs.declared.parts.extent.Extent.Extent, headers_syntax.proofs.OptionLemmas.then_parts}
use Rattle.cache_store.specs.Parts.{Combining.{HaveSameTag, IsCombination}, Extents.{extent_by, extent_in, joint, size}}
use Rattle.cache_store.specs.Parts.{Received.length_in, Extents.{greatest, is_extent, is_whole, range_line, strong_tag}}
use Rattle.cache_store.specs.Parts.Received.{came_of_part, came_of_whole, is_signed, IsRecorded, received_extent}
use Rattle.cache_rules.specs.{declared.stored.StoredResponse.StoredResponse, Stored.fields_of_stored}
use Rattle.{cache_rules.specs.Storing.IsAsStored, gateway_messages.specs.HopByHop.{connection_options, is_hop_by_hop}}
use Rattle.cache_rules.specs.declared.storing.Reception.{Reception, TheVariants.{Complete, Incomplete}}
use Rattle.headers_ranges.specs.ContentRangeLaws.{content_read}

-- ---- what is stored of a field

-- a field of a stored response is as it came, or isn't there
stays_or_goes : (received : ℕ) (given stored : LineMap) → IsAsStored received given stored → (name : List ℕ)
    → name ≢ codes "date" → (stored name ≡ given name) ⊎ (stored name ≡ [])
stays_or_goes received given stored is name differ = (elim (is_hop_by_hop true (connection_options given) name) as
    (λ b. is_hop_by_hop true (connection_options given) name ≡ b → (stored name ≡ given name) ⊎ (stored name ≡ [])) [
      | true ↦ λ hop. inr (is.hop_by_hop name hop differ)
      | false ↦ λ no. inl (is.end_to_end name (λ hop. grind (arith, no, hop)) differ)
    ]) refl

not_date : (name : List ℕ) → get_or name 0 0 ≢ 100 → name ≢ codes "date"
not_date name other same = other (ap (λ l. get_or l 0 0) same)

-- what a stored message says by one field, it said as it came
module _ {X : Type 0} (says : List Line → Option X) (none : says [] ≡ None) (name : List ℕ)
    (differ : name ≢ codes "date") where
  said : (received : ℕ) (given stored : LineMap) → IsAsStored received given stored → (x : X)
      → says (stored name) ≡ Some x → says (given name) ≡ Some x
  said received given stored is x h = elim (stays_or_goes received given stored is name differ) [
    | inl same ↦ ap says (sym same) ∙ h
    | inr gone ↦ absurd (none-some x (sym none ∙ (ap says (sym gone) ∙ h)))
  ]

-- the strong validator that the lines of ETag say
abbrev tag_by : List Line → Option Line
tag_by lines = option_and_then (λ tag. if is_tag tag && not (is_weak tag) then Some tag else None) (only_line lines)

-- the part that the lines of Content-Range say
abbrev extent_by_lines : List Line → Option Extent
extent_by_lines lines = option_and_then (λ (content : ContentBytes). extent_by content.range content.length)
    (option_and_then content_bytes (only_line lines))

pub tag-stored : (part stored : StoredResponse) → IsStoredAs part stored → (tag : Line)
    → strong_tag (fields_of_stored stored) ≡ Some tag → strong_tag (fields_of_stored part) ≡ Some tag
tag-stored part stored kept tag h =
    said tag_by refl (codes "etag") (not_date (codes "etag") (λ e. absurd (omega (arith, e)))) part.received
    (fields_of_stored part) (fields_of_stored stored) kept.fields tag h

pub extent-stored : (part stored : StoredResponse) → IsStoredAs part stored → (own : Extent)
    → extent_in (fields_of_stored stored) ≡ Some own → extent_in (fields_of_stored part) ≡ Some own
extent-stored part stored kept own h =
    said extent_by_lines refl (codes "content-range") (not_date _ (λ e. absurd (omega (arith, e)))) part.received
    (fields_of_stored part) (fields_of_stored stored) kept.fields own h

-- ---- what Content-Range says of a part

-- the numbers of the part can be said, and it has so many bytes
pub record IsPartOf (extent : Extent) (count : ℕ) : Type 0 where
  pub ordered : extent.first ≤ extent.last
  pub within : extent.last < extent.len
  pub small : extent.len < 2 ^ 64
  pub size : count ≡ extent.last + 1 - extent.first

of_if : {X : Type 0} (b : Bool) (o : Option X) (y : X) → cond b o None ≡ Some y → (b ≡ true) × (o ≡ Some y)
of_if true o y h = (refl, h)
of_if false o y h = absurd (none-some y h)

unless : {X : Type 0} (b : Bool) (o : Option X) (y : X) → cond b None o ≡ Some y → o ≡ Some y
unless true o y h = absurd (none-some y h)
unless false o y h = h

is_part_of : (extent : Extent) → is_extent extent.first extent.last extent.len ≡ true
    → IsPartOf extent (extent.last + 1 - extent.first)
is_part_of extent is =
    let a = and_parts (nat_le extent.first extent.last)
    (nat_lt extent.last extent.len && nat_lt extent.len greatest) is in
    let b = and_parts (nat_lt extent.last extent.len) (nat_lt extent.len greatest) a.1 in
    record {
      ordered = grind (arith, a.0, nat_tests);
      within = grind (arith, b.0, nat_tests);
      small = grind (arith, b.1, nat_tests);
      size = refl;
    }

-- a part that is said is one
said_part : (range : Option (ℕ × ℕ)) (len : Option ℕ) (own : Extent) → extent_by range len ≡ Some own
    → IsPartOf own (own.last + 1 - own.first)
said_part None len own h = absurd (none-some own h)
said_part (Some range) None own h = absurd (none-some own h)
said_part (Some (first, last)) (Some len) own h =
    let is = cond_some (is_extent first last len) (record { first = first; last = last; len = len }) own h in
    subst (λ (e : Extent). IsPartOf e (e.last + 1 - e.first)) is.1
    (is_part_of (record { first = first; last = last; len = len }) is.0)

pub extent-is : (fields : LineMap) (own : Extent) → extent_in fields ≡ Some own
    → IsPartOf own (own.last + 1 - own.first)
extent-is fields own h =
    let content = then_parts (λ (content : ContentBytes). extent_by content.range content.length)
    (option_and_then content_bytes (only_line (fields (codes "content-range")))) own h in
    said_part content.0.range content.0.length own content.2

abbrev content_of : Extent → ContentBytes
content_of extent = record { range = Some (extent.first, extent.last); length = Some extent.len }

fits : (extent : Extent) (count : ℕ) → IsPartOf extent count → FitsContent (content_of extent)
fits extent count is = record {
  first = λ r h. let same : (extent.first, extent.last) ≡ r = grind (arith, h) in
      subst (λ (s : ℕ × ℕ). s.0 < 2 ^ 64) same (omega (arith, is.ordered, is.within, is.small));
  last = λ r h. let same : (extent.first, extent.last) ≡ r = grind (arith, h) in
      subst (λ (s : ℕ × ℕ). s.1 < 2 ^ 64) same (omega (arith, is.within, is.small));
  whole = λ n h. let same : extent.len ≡ n = grind (arith, h) in
      subst (λ m. m < 2 ^ 64) same is.small;
}

-- what the line of a part says is that part
line_says : (extent own : Extent) (count : ℕ) → IsPartOf extent count
    → extent_by_lines (range_line extent ∷ []) ≡ Some own → own ≡ extent
line_says extent own count is h =
    let content = then_parts (λ (content : ContentBytes). extent_by content.range content.length) _ _ h in
    let read = content_read (content_of extent) (fits extent count is) in
    let same = cond_some (nat_le extent.first extent.last) (content_of extent) content.0 (sym read ∙ content.1) in
    let by : extent_by (Some (extent.first, extent.last)) (Some extent.len) ≡ Some own = rw (← same.1) at content.2 in
    let is_it = cond_some (is_extent extent.first extent.last extent.len)
    (record { first = extent.first; last = extent.last; len = extent.len }) own by in sym is_it.1

-- the lines by which a part is recorded
abbrev pub recorded_lines : Extent → List Line
recorded_lines extent = if is_whole extent then [] else range_line extent ∷ []

pub recorded-says : (fields : LineMap) (extent own : Extent) (count : ℕ) → IsPartOf extent count
    → fields (codes "content-range") ≡ recorded_lines extent → extent_in fields ≡ Some own → own ≡ extent
recorded-says fields extent own count is lines h = (elim (is_whole extent) as
    (λ b. fields (codes "content-range") ≡ cond b [] (range_line extent ∷ []) → own ≡ extent) [
      | true ↦ λ l. absurd (none-some own (ap extent_by_lines (sym l) ∙ h))
      | false ↦ λ l. line_says extent own count is (ap extent_by_lines (sym l) ∙ h)
    ]) lines

-- a part that is recorded without Content-Range is the whole
pub whole-lines : (extent : Extent) (lines : List Line) → lines ≡ recorded_lines extent → ¬ (HasLine lines)
    → is_whole extent ≡ true
whole-lines extent lines same none = elim (cases_Bool (is_whole extent)) [
  | inl is ↦ is
  | inr isnt ↦
      let line : recorded_lines extent ≡ range_line extent ∷ [] = rw isnt refl in
      absurd (none (subst HasLine {x = range_line extent ∷ []} (sym (same ∙ line)) (omega arith)))
]

-- ---- the part that came

part_of_count : (reception : Reception) (count : ℕ) (sent extent : Extent) → IsPartOf sent (sent.last + 1 - sent.first)
    → came_of_part reception count sent ≡ Some extent → IsPartOf extent count
part_of_count Complete count sent extent is h = let all = cond_some (count == size sent) sent extent h in
    let many : count ≡ sent.last + 1 - sent.first = grind (arith, all.0, nat_tests) in
    subst (λ (e : Extent). IsPartOf e count) all.1
    (record { ordered = is.ordered; within = is.within; small = is.small; size = many })
part_of_count Incomplete count sent extent is h =
    let some = cond_some (nat_lt 0 count && nat_le count (size sent))
    (record { first = sent.first; last = sent.first + count - 1; len = sent.len }) extent h in
    let both = and_parts (nat_lt 0 count) (nat_le count (size sent)) some.0 in
    let positive : 0 < count = grind (arith, both.0, nat_tests) in
    let fewer : count ≤ sent.last + 1 - sent.first = grind (arith, both.1, nat_tests) in
    subst (λ (e : Extent). IsPartOf e count) some.1 (record {
      ordered = omega (arith, positive);
      within = omega (arith, positive, fewer, is.ordered, is.within);
      small = is.small;
      size = omega (arith, positive);
    })

part_of_whole : (reception : Reception) (count len : ℕ) (extent : Extent)
    → came_of_whole reception count len ≡ Some extent → IsPartOf extent count
part_of_whole Complete count len extent h = absurd (none-some extent h)
part_of_whole Incomplete count len extent h =
    let some = cond_some (nat_lt 0 count && (nat_lt count len && nat_lt len greatest))
    (record { first = 0; last = count - 1; len = len }) extent h in
    let one = and_parts (nat_lt 0 count) (nat_lt count len && nat_lt len greatest) some.0 in
    let two = and_parts (nat_lt count len) (nat_lt len greatest) one.1 in
    let positive : 0 < count = grind (arith, one.0, nat_tests) in
    let fewer : count < len = grind (arith, two.0, nat_tests) in
    let low : len < 2 ^ 64 = grind (arith, two.1, nat_tests) in
    subst (λ (e : Extent). IsPartOf e count) some.1 (record {
      ordered = omega arith;
      within = omega (arith, positive, fewer);
      small = low;
      size = omega (arith, positive);
    })

pub received-is : (reception : Reception) (status count : ℕ) (fields : LineMap) (extent : Extent)
    → received_extent reception status count fields ≡ Some extent → IsPartOf extent count
received-is reception status count fields extent h = elim (cases_Bool (status == 206)) [
  | inl partial ↦
      let found : (if is_signed fields then None else option_and_then (came_of_part reception count)
      (extent_in fields)) ≡ Some extent = rw partial at h in
      let sent = then_parts (came_of_part reception count) _ _ (unless _ _ _ found) in
      part_of_count _ _ _ _ (extent-is fields sent.0 sent.1) sent.2
  | inr other ↦
      let found : (if status == 200 then option_and_then (came_of_whole reception count) (length_in fields) else None)
      ≡ Some extent = rw other at h in
      let ok = of_if _ _ _ found in
      let len = then_parts (came_of_whole reception count) _ _ ok.1 in
      part_of_whole _ _ _ _ len.2
]

-- ---- a part that is recorded, and a combination

pub recorded-tag : (came part : StoredResponse) (extent : Extent) → IsRecorded came extent part
    → strong_tag (fields_of_stored part) ≡ strong_tag (fields_of_stored came)
recorded-tag came part extent is = ap tag_by (is.fields (codes "etag"))

pub recorded-range : (came part : StoredResponse) (extent : Extent) → IsRecorded came extent part
    → fields_of_stored part (codes "content-range") ≡ recorded_lines extent
recorded-range came part extent is = is.fields (codes "content-range")

module _ (stored came fresh part : StoredResponse) (own other : Extent)
    (is : IsCombination stored came own other fresh part) where
  pub combined-range : fields_of_stored part (codes "content-range") ≡ recorded_lines (joint own other)
  combined-range = is.extended.fields (codes "content-range")

  -- its tag is that of the new response or of the stored one
  etag : (fields_of_stored part (codes "etag") ≡ fields_of_stored came (codes "etag"))
      ⊎ (fields_of_stored part (codes "etag") ≡ fields_of_stored stored (codes "etag"))
  etag =
      let update = fields_of_stored came in
      let as_fresh = is.extended.fields (codes "etag") ∙ is.freshened.fields (codes "etag") in
      elim (cases_Bool (nat_lt 0 (length (update (codes "etag"))) && not (is_kept update (codes "etag")))) [
        | inl taken ↦ inl (as_fresh ∙ rw taken refl)
        | inr kept ↦ inr (as_fresh ∙ rw kept refl)
      ]

same_tags : (one other : Option Line) → IsSomeAnd one (λ tag. other ≡ Some tag) → other ≡ one
same_tags None other h = absurd h
same_tags (Some tag) other h = h

pub tags-same : (stored came : StoredResponse) → HaveSameTag stored came
    → strong_tag (fields_of_stored came) ≡ strong_tag (fields_of_stored stored)
tags-same stored came h = same_tags (strong_tag (fields_of_stored stored)) (strong_tag (fields_of_stored came)) h

pub combined-tag : (stored came fresh part : StoredResponse) (own other : Extent) → IsCombination stored came own
    other fresh part → HaveSameTag stored came → strong_tag (fields_of_stored part) ≡ strong_tag (fields_of_stored came)
combined-tag stored came fresh part own other is same = elim (etag stored came fresh part own other is) [
  | inl new ↦ ap tag_by new
  | inr old ↦ ap tag_by old ∙ sym (tags-same stored came same)
]

-- the part of both is one
pub joint-is : (own other : Extent) (one two : ℕ) → IsPartOf own one → IsPartOf other two → own.len ≡ other.len
    → IsPartOf (joint own other) ((joint own other).last + 1 - (joint own other).first)
joint-is own other one two a b same = record {
  ordered = omega (arith, a.ordered, b.ordered);
  within = omega (arith, a.within, b.within, same);
  small = a.small;
  size = refl;
}

-- there is a strong validator
pub some-tag : (o : Option Line) → IsSome o → (tag : Line) × (o ≡ Some tag)
some-tag None none = absurd (cc none)
some-tag (Some tag) some = (tag, refl)

-- ---- the part that is sent
