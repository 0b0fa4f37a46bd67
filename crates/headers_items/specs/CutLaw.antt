-- Field lines keep their items if they are joined and cut.
use Rattle.std.specs.Prelude.{◌≡◌, ℕ, ◌+◌, ◌<◌, ◌≤◌, length, true, List, [], ◌∷◌, count_by, Option}
use Rattle.std.{specs.List.{list_all, flat_map}, specs.Iterator.Drains}
use Rattle.http_header.specs.FieldValue.{FieldValue}
use Rattle.headers_syntax.{specs.Lines.{Line, lines_of}, specs.Text.{is_text, is_quote}}
use Rattle.headers_items.{specs.Merge.merge, specs.Places.{is_even, items, is_counting_place, pieces}}

-- every field line but the last has an even number of quotes
abbrev pub EvenButLast : List (List ℕ) → Type 0
EvenButLast [] = Unit {0}
EvenButLast (x ∷ []) = Unit {0}
EvenButLast (x ∷ y ∷ ys) = (is_even (count_by is_quote x) ≡ true) × EvenButLast (y ∷ ys)

-- The items of a value are those of the field lines in order, if there is a line, all lines are text, and each but the
-- last has an even number of quotes.
abbrev pub HasItemsOf : ℕ → List (List ℕ) → List ℕ → Type 0
HasItemsOf sep [] value = Unit {0}
HasItemsOf sep (x ∷ xs) value = list_all is_text (x ∷ xs) ≡ true → EvenButLast (x ∷ xs)
    → items sep value ≡ flat_map (items sep) (x ∷ xs)

-- ps increase from place i on and are counting places of s
abbrev pub AreCuts : ℕ → List ℕ → ℕ → List ℕ → Type 0
AreCuts sep s i [] = Unit {0}
AreCuts sep s i (p ∷ ps) = (i ≤ p) × (p < length s) × (is_counting_place sep s p ≡ true) × AreCuts sep s (p + 1) ps

-- A value joins the field lines. So it has their items; and if the lines are a text that is cut at counting places, it
-- has the items of that text.
pub record IsMerged (sep : ℕ) (lines : List (List ℕ)) (value : List ℕ) : Type 0 where
  pub bytes : value ≡ merge sep lines
  pub items_kept : HasItemsOf sep lines value
  pub cuts_kept : (s ps : List ℕ) → is_text s ≡ true → AreCuts sep s 0 ps → lines ≡ pieces s 0 ps
      → items sep value ≡ items sep s

-- the iterator yielded values from state s until it ended, and the result joins them
abbrev pub MergesItems : {S : Type 0} → (S → Option FieldValue → S → Type 0) → S → ℕ → List ℕ → Type 0
MergesItems steps s sep value = (given : List FieldValue) × Drains steps s given × IsMerged sep (lines_of given) value

-- the same for an iterator over field lines
abbrev pub MergesLines : {S : Type 0} → (S → Option Line → S → Type 0) → S → ℕ → List ℕ → Type 0
MergesLines steps s sep value = (lines : List Line) × Drains steps s lines × IsMerged sep lines value
