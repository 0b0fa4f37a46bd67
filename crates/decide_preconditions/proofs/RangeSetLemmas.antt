-- Cuts, elements and parts of a range-set.
use Rattle.std.proofs.Common.{◌≡◌, ℕ, ◌<◌, ◌↔◌, ◌⊎◌, Bool, true, false, not, ◌==◌, nat_lt, nat_le, List, [], ◌∷◌}
use Rattle.std.proofs.Common.{length, Option, Some, None, MatchOption, refl, arith, All, Any, filter_map}
use Rattle.std.proofs.lemmas.{Bool.{cases_Bool, leb-true, leb-false, ltb-true, ltb-false}, List.Elements.All-nil}
use Rattle.std.proofs.lemmas.List.{Splits.{slice_split_first, slice_split_none}, Sums.fails_before_first}
use Rattle.std.specs.{Bool.MatchBool, List.{after_first, before_first, cons_option, list_any, position_or_len}}
use Rattle.{std.specs.Option.option_and_then, headers.{specs.ByteRanges.pieces, proofs.RangeLemmas.any_here}}
use Rattle.{rfc_fields.specs.Cuts.cut, decide_preconditions.specs.{Parts.{Holds, IsPartOf}, RangeSets.RangeSpec}}
use Rattle.decide_preconditions.specs.RangeSets.{RangeSpec.{Between, From, Suffix}, part_in, part_of, spec_of, Covers}
use Rattle.decide_preconditions.{specs.{RangeSets.selects_some, declared.part.Part.Part}, proofs.PartLemmas.Among}
use Rattle.decide_preconditions.proofs.PartLemmas.{among, any_among}

-- ---- cuts

abbrev is_at : ℕ → ℕ → Bool
is_at c b = b == c

-- a piece before a comma, and what follows
pub piece_next : (s x y : List ℕ) → Some (x, y) ≡ cut 44 s → pieces s ≡ x ∷ pieces y
piece_next s x y e =
    grind (arith, cases_Bool, nat_lt, position_or_len, before_first, after_first, slice_split_first, ltb-true)

-- the last piece
pub piece_last : (s : List ℕ) → None ≡ cut 44 s → pieces s ≡ s ∷ []
piece_last s e = grind (
  arith,
  cases_Bool,
  nat_lt,
  position_or_len,
  before_first,
  after_first,
  ltb-false,
  slice_split_none,
  fails_before_first,
)

-- ---- parts

-- what a spec selects: nothing if it covers no position, else the part of just the positions that it covers
abbrev SelectsCovered : ℕ → RangeSpec → Option Part → Type 0
SelectsCovered len spec found = MatchOption found ((p : ℕ) → ¬ (Covers len p spec))
    (λ part. IsPartOf len part × ((p : ℕ) → Holds p part ↔ Covers len p spec))

selects_to : (len first last : ℕ) → SelectsCovered len (Between first last) (part_of len (Between first last))
selects_to len first last = grind (arith, cases_Bool, nat_le, leb-true, nat_lt, ltb-true, ltb-false, leb-false)

selects_from : (len first : ℕ) → SelectsCovered len (From first) (part_of len (From first))
selects_from len first = grind (arith, cases_Bool, nat_lt, ltb-true, ltb-false)

selects_last : (len n : ℕ) → SelectsCovered len (Suffix n) (part_of len (Suffix n))
selects_last len n = grind (arith, cases_Bool, nat_lt, ltb-true, ltb-false)

selects_covered : (len : ℕ) (spec : RangeSpec) → SelectsCovered len spec (part_of len spec)
selects_covered len spec = grind (arith, selects_to, selects_from, selects_last)

-- an element before others, by the spec that it is
part_first : (len p : ℕ) (spec : Option RangeSpec) (others : List RangeSpec) (parts : List Part) → Among (Holds p) parts
    ↔ Among (Covers len p) others → Among (Holds p) (cons_option (option_and_then (part_of len) spec) parts)
    ↔ Among (Covers len p) (cons_option spec others)
part_first len p None others parts same = same
part_first len p (Some spec) others parts same = by (part_of len spec) (selects_covered len spec)
  where
    by : (found : Option Part) → SelectsCovered len spec found
        → Among (Holds p) (cons_option found parts) ↔ (Covers len p spec ⊎ Among (Covers len p) others)
    by found h = grind arith

parts_are : (len p : ℕ) (es : List (List ℕ))
    → Among (Holds p) (filter_map (part_in len) es) ↔ Among (Covers len p) (filter_map spec_of es)
parts_are len p [] = ((λ a. a), (λ a. a))
parts_are len p (e ∷ es) =
    part_first len p (spec_of e) (filter_map spec_of es) (filter_map (part_in len) es) (parts_are len p es)

pub parts_cover : (len p : ℕ) (es : List (List ℕ))
    → Any (Holds p) (filter_map (part_in len) es) ↔ Any (Covers len p) (filter_map spec_of es)
parts_cover len p es =
    let same = parts_are len p es in (
      (λ a. any_among (Covers len p) _ (same.0 (among (Holds p) _ a))),
      (λ a. any_among (Holds p) _ (same.1 (among (Covers len p) _ a))),
    )

part_within : (len : ℕ) (spec : RangeSpec) (found : Option Part) (parts : List Part) → SelectsCovered len spec found
    → All (IsPartOf len) parts → All (IsPartOf len) (cons_option found parts)
part_within len spec found parts h all = grind arith

element_within : (len : ℕ) (spec : Option RangeSpec) (parts : List Part) → All (IsPartOf len) parts
    → All (IsPartOf len) (cons_option (option_and_then (part_of len) spec) parts)
element_within len spec parts all = grind (arith, part_within, selects_covered)

pub parts_within : (len : ℕ) (es : List (List ℕ)) → All (IsPartOf len) (filter_map (part_in len) es)
parts_within len [] = All-nil (IsPartOf len)
parts_within len (e ∷ es) = element_within len (spec_of e) (filter_map (part_in len) es) (parts_within len es)

-- ---- whether a position is asked for

-- the parts that are selected are some, or none
some_part : (len : ℕ) (es : List (List ℕ)) (b : Bool) → b ≡ list_any (selects_some len) es
    → MatchBool b (0 < length (filter_map (part_in len) es)) (filter_map (part_in len) es ≡ [])
some_part len [] b e = rw e refl
some_part len (x ∷ es) b e = by (part_in len x) refl (some_part len es b)
  where
    by : (found : Option Part) → part_in len x ≡ found → (b ≡ list_any (selects_some len) es
        → MatchBool b (0 < length (filter_map (part_in len) es)) (filter_map (part_in len) es ≡ []))
        → MatchBool b (0 < length (cons_option found (filter_map (part_in len) es)))
        (cons_option found (filter_map (part_in len) es) ≡ [])
    by None f rest = rest (rw f at e)
    by (Some part) f rest = let yes : b ≡ true = rw f at e in rw yes (omega arith)

pub asked_or_not : (len : ℕ) (es : List (List ℕ)) (b : Bool) → b ≡ list_any (selects_some len) es
    → MatchBool (not b) ((p : ℕ) → ¬ (Any (Covers len p) (filter_map spec_of es)))
    ((p : ℕ) × Any (Covers len p) (filter_map spec_of es))
asked_or_not len es true e = by (filter_map (part_in len) es) refl (some_part len es true e)
  where
    by : (parts : List Part) → filter_map (part_in len) es ≡ parts → 0 < length parts
        → (p : ℕ) × Any (Covers len p) (filter_map spec_of es)
    by [] f l = absurd (omega (arith, l))
    by (part ∷ parts) f l =
        let within : All (IsPartOf len) (part ∷ parts) = rw f at (parts_within len es) in
        let low = within 0 part l in (
          part.first,
          (parts_cover len part.first es).0 (rw f (any_here (Holds part.first) part parts (omega arith, low.0))),
        )
asked_or_not len es false e = λ p a.
    let none = some_part len es false e in
    let there : Among (Holds p) [] = rw none at (among (Holds p) _ ((parts_cover len p es).1 a)) in there
