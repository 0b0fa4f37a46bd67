-- A search for the next mark by searches for bytes.
use Rattle.headers_items.proofs.PlacesLemmas.{NoQuote, counting_place_from, counting_place_inside, counting_place_other}
use Rattle.headers_items.{proofs.PlacesLemmas.quotes_along, specs.Places.{NoHit, is_counting_place, is_even}}
use Rattle.headers_items.specs.{Places.quotes_before, ScanState.IsNextMark, declared.scan.Mark.Mark}
use Rattle.{memchr.specs.Find.{IsFirstByte, is_byte, is_byte2}, std.proofs.Common.{Bool, List, None, Option, Some}}
use Rattle.std.proofs.Common.{arith, drop, eqb, false, get_or, length, sym, take, true, ℕ, ◌+◌, ◌-◌, ◌<◌, ◌∙◌, ◌≡◌, ◌≤◌}
use Rattle.std.proofs.lemmas.{Bool.{eqb-false, eqb-true, false≢true, not-true, or_from, or_parts}, List.get_or-drop}
use Rattle.std.{proofs.lemmas.List.{length-drop, take_rest}, specs.{Option.MatchOption, Prelude.{if◌then◌else◌, not}}}

-- the mark at place p
abbrev pub mark_at : List ℕ → ℕ → Mark
mark_at s p = record { place = p; quote = eqb (get_or s p 0) 34 }

-- r is how far from place i the next mark stands
abbrev pub FindsAhead : ℕ → List ℕ → ℕ → Option ℕ → Type 0
FindsAhead sep s i r =
    MatchOption r (NoHit sep s i (length s)) (λ k. (i + k < length s) × IsNextMark sep s i (mark_at s (i + k)))

-- no byte from i up to j passes
abbrev NonePasses : (ℕ → Bool) → List ℕ → ℕ → ℕ → Type 0
NonePasses test s i j = (k : ℕ) → i ≤ k → k < j → test (get_or s k 0) ≡ false

-- what a test that fails in the rest of s says of s
fails_upto : (test : ℕ → Bool) (s : List ℕ) (i n : ℕ)
    → ((k : ℕ) → 0 ≤ k → k < n → test (get_or (drop i s) k 0) ≡ true → ⊥) → NonePasses test s i (i + n)
fails_upto test s i n h k low high = grind (arith, get_or-drop i s (k - i) 0)

-- neither byte, neither hit
outside_none : (sep : ℕ) (s : List ℕ) (i j : ℕ) → NonePasses (is_byte2 34 sep) s i j → NoHit sep s i j
outside_none sep s i j h k low high = grind (arith, or_parts, or_from, counting_place_other, eqb-false)

-- inside quotes no place before the next quote is a counting place
inside_none : (sep : ℕ) (s : List ℕ) (i j : ℕ) → j ≤ length s → is_even (quotes_before s i) ≡ false → NoQuote s i j
    → NoHit sep s i j
inside_none sep s i j l odd h k low high = grind (arith, quotes_along, or_from, counting_place_inside)

-- from place i, by a search of the rest of s for what passes a test
ahead_by : (test : ℕ → Bool) (sep : ℕ) (s : List ℕ) (i : ℕ) (r : Option ℕ) → i ≤ length s →
    ((j : ℕ) → j ≤ length s → NonePasses test s i j → NoHit sep s i j) → ((p : ℕ) → i ≤ p → p < length s → NonePasses
    test s i p → test (get_or s p 0) ≡ true → eqb (get_or s p 0) 34 ≡ false → is_counting_place sep s p ≡ true)
    → IsFirstByte test (take (length s - i) (drop i s)) r → FindsAhead sep s i r
ahead_by test sep s i None l none cut h = let h' : IsFirstByte test (drop i s) None = rw (take_rest s i) at h in
    grind (arith, fails_upto test s i (length (drop i s)) h', drop i s, length-drop i s)
ahead_by test sep s i (Some k) l none cut h =
    let h' : IsFirstByte test (drop i s) (Some k) = rw (take_rest s i) at h in
    let high : i + k < length s = omega (arith, h'.0.high, length-drop i s) in
    let before = fails_upto test s i k h'.0.before in
    let here : test (get_or s (i + k) 0) ≡ true = rw (get_or-drop i s k 0) at h'.1 in (
      high,
      record {
        low = omega arith;
        high = high;
        before = none (i + k) (omega arith) before;
        a_quote = λ e. eqb-true _ _ e;
        a_cut = cut (i + k) (omega arith) high before here;
      },
    )

-- inside quotes or outside them
pub ahead : (sep : ℕ) (s : List ℕ) (i : ℕ) (inside : Bool) (r : Option ℕ) → i ≤ length s → inside ≡ not
    (is_even (quotes_before s i)) → IsFirstByte (if inside then is_byte 34 else is_byte2 34 sep)
    (take (length s - i) (drop i s)) r → FindsAhead sep s i r
ahead sep s i true r l state h = ahead_by (is_byte 34) sep s i r l (λ j high none. inside_none sep s i j high
    (not-true _ (sym state)) none) (λ p low high none here e. absurd (false≢true (sym e ∙ here))) h
ahead sep s i false r l state h = grind (arith, ahead_by, outside_none, quotes_along, or_parts, counting_place_from)
