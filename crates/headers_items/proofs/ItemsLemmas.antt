-- Facts on the counting places and the pieces that are left.
use Rattle.headers_items.{proofs.PlacesLemmas.{counting_place_other, counting_step, stays}, specs.ItemsState.IsNextCut}
use Rattle.headers_items.specs.{ItemsState.NoCut, Places.{counting_from, items_from, pieces, places}}
use Rattle.headers_items.specs.{ScanState.{IsNextMark, ScanState}, declared.scan.Mark.Mark}
use Rattle.{headers_syntax.specs.Text.{quote, trim}, std.proofs.Common.{Bool, List, [], ap, arith, drop, inl, inr}}
use Rattle.std.proofs.Common.{length, map, refl, suc, sym, true, zero, ℕ, ◌+◌, ◌-◌, ◌∙◌, ◌∷◌, ◌≡◌, ◌≢◌, ◌≤◌}
use Rattle.std.{proofs.lemmas.{Bool.{cases_lt, or_parts}, Grind.common_steps, List.length-map}, specs.List.filter}
use Rattle.std.specs.List.{slice_range}

-- where no place counts, the same counting places are left
counting_same : (sep : ℕ) (s : List ℕ) (i j : ℕ) → i ≤ j → j ≤ length s → NoCut sep s i j
    → counting_from sep s j ≡ counting_from sep s i
counting_same sep s i j le l h =
    stays (counting_from sep s) i j le (λ k a b. sym (counting_step sep s k (omega arith) ∙ rw (h k a b) refl))

pub counting_none : (sep : ℕ) (s : List ℕ) (i : ℕ) → NoCut sep s i (length s) → counting_from sep s i ≡ []
unfolding places
counting_none sep s i h = elim (cases_lt (length s) i) [
  | inl past ↦ let z : length s - i ≡ 0 = omega arith in rw z refl
  | inr l ↦ grind (arith, counting_same sep s i (length s) l (omega arith) h)
]

pub counting_next : (sep : ℕ) (s : List ℕ) (i q : ℕ) → IsNextCut sep s i q
    → counting_from sep s i ≡ q ∷ counting_from sep s (q + 1)
counting_next sep s i q f =
    sym (counting_same sep s i q f.low (omega (arith, f.high)) f.before) ∙ counting_step sep s q f.high ∙ rw f.here refl

-- the last item, and the next of several
pub items_last : (sep : ℕ) (s : List ℕ) (i : ℕ) → i ≤ length s → NoCut sep s i (length s)
    → items_from sep s i ≡ trim (drop i s) ∷ []
unfolding pieces
items_last sep s i l h = ap (λ ps. map trim (pieces s i ps)) (counting_none sep s i h)

pub items_next : (sep : ℕ) (s : List ℕ) (i q : ℕ) → IsNextCut sep s i q
    → items_from sep s i ≡ trim (slice_range s i q) ∷ items_from sep s (q + 1)
unfolding pieces
items_next sep s i q f = ap (λ ps. map trim (pieces s i ps)) (counting_next sep s i q f)

-- a quote is no cut
pub NoCut-more_quote : (sep : ℕ) (s : List ℕ) (i p : ℕ) (m : Mark) → sep ≢ quote → NoCut sep s i p
    → IsNextMark sep s p m → m.quote ≡ true → NoCut sep s i (m.place + 1)
NoCut-more_quote sep s i p m ne h f y k low high = grind (arith, counting_place_other sep s m.place, or_parts)

-- a scan went from s to t, and passed no counting place
pub record PassesCuts (s t : ScanState) : Type 0 where
  pub bytes : t.bytes ≡ s.bytes
  pub separator : t.separator ≡ s.separator
  pub low : s.place ≤ t.place
  pub high : t.place ≤ length s.bytes
  pub before : NoCut s.separator s.bytes s.place t.place

pub passes_quote : (s t u : ScanState) (m : Mark) → s.separator ≢ quote → PassesCuts s t
    → IsNextMark t.separator t.bytes t.place m → m.quote ≡ true → u.place ≡ m.place + 1 → u.bytes ≡ t.bytes
    → u.separator ≡ t.separator → PassesCuts s u
passes_quote s t u m ne h f y p b c = let f' : IsNextMark s.separator s.bytes t.place m = rw (← h.separator, ← h.bytes)
    f in grind (arith, NoCut-more_quote s.separator s.bytes s.place t.place m ne h.before f' y)

-- ---- how many items there are

counting-le : (f : ℕ → Bool) (i n : ℕ) → length (filter f (places i n)) ≤ n
unfolding places
counting-le f i zero = omega arith
counting-le f i (suc n) = grind (arith, counting-le f (i + 1) n)

length-pieces : (s : List ℕ) (i : ℕ) (ps : List ℕ) → length (pieces s i ps) ≡ length ps + 1
unfolding pieces
length-pieces s i [] = refl
length-pieces s i (p ∷ ps) = omega (arith, length-pieces s (p + 1) ps)

-- at most one more than there are bytes
pub items_from-le : (sep : ℕ) (s : List ℕ) (i : ℕ) → length (items_from sep s i) ≤ length s + 1
items_from-le sep s i = grind (arith, common_steps, counting-le, length-map, length-pieces)
