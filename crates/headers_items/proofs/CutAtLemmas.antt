-- The pieces of a value, one by one.
use Rattle.{headers_items.specs.{CutLaw.AreCuts, Places.pieces}, headers_syntax.specs.Lines.lines_of}
use Rattle.{http_header.specs.FieldValue.FieldValue, std.proofs.Common.{List, [], append_assoc, arith, drop, get_or}}
use Rattle.std.proofs.{Common.{length, subst, ℕ, ◌++◌, ◌+◌, ◌<◌, ◌∷◌, ◌≡◌, ◌≤◌}, lemmas.Grind.common_steps}
use Rattle.std.{proofs.lemmas.List.{drop_all, drop_more, map_push, take_rest}, specs.List.slice_range}

-- a value more
pub lines_of_push : (xs ys : List FieldValue) (x : FieldValue) (line : List ℕ) → ys ≡ xs ++ x ∷ [] → x.bytes ≡ line
    → lines_of ys ≡ lines_of xs ++ line ∷ []
lines_of_push xs ys x line e f = grind (arith, map_push)

-- one piece more
pub pieces_more : (s : List ℕ) (start p i : ℕ) (places : List ℕ) (before after all : List (List ℕ))
    → i < length places → p ≡ get_or places i 0 → before ++ pieces s start (drop i places) ≡ all
    → after ≡ before ++ slice_range s start p ∷ [] → after ++ pieces s (p + 1) (drop (i + 1) places) ≡ all
unfolding pieces
pieces_more s start p i places before after all l q so_far e =
    grind (arith, common_steps, drop, append_assoc, drop_more)

-- the last piece
pub pieces_last : (s : List ℕ) (start i : ℕ) (places : List ℕ) (before after all : List (List ℕ)) → length places ≤ i
    → before ++ pieces s start (drop i places) ≡ all → after ≡ before ++ slice_range s start (length s) ∷ []
    → after ≡ all
unfolding pieces
pieces_last s start i places before after all l so_far e = grind (arith, common_steps, take_rest, drop_all)

-- the cuts that are left
pub AreCuts-more : (sep : ℕ) (s : List ℕ) (start i : ℕ) (places : List ℕ) → i < length places
    → AreCuts sep s start (drop i places) → AreCuts sep s start (get_or places i 0 ∷ drop (i + 1) places)
AreCuts-more sep s start i places l h = subst (AreCuts sep s start) (drop_more places i 0 l) h
