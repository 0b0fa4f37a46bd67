-- The halves of an item, found by a search.
use Rattle.{headers_items.specs.Pairs.{is_equals, pair_of, pairs}, headers_syntax.specs.Text.trim}
use Rattle.{memchr.specs.Find.{IsFirstByte, is_byte}, std.proofs.Common.{List, None, Some, [], arith, false, length}}
use Rattle.std.proofs.{Common.{ltb, refl, ℕ, ◌+◌, ◌-◌, ◌∷◌, ◌≡◌, ◌≤◌}, lemmas.Bool.false_from_ne_true}
use Rattle.std.proofs.lemmas.{Bool.Decides.nat_tests, List.{take_rest, Sums.position_or_len_is}}
use Rattle.std.specs.{List.slice_range, Prelude.position}

position_none : (item : List ℕ) → IsFirstByte (is_byte 61) item None → position is_equals item ≡ None
position_none item h = let e = position_or_len_is is_equals item (length item) 0 (omega arith)
    (λ k l. false_from_ne_true _ (h k (omega arith) l)) (λ l. absurd (omega (arith, l))) in
    let no : ltb (length item) (length item) ≡ false = grind (arith, nat_tests) in rw (e, no) refl

position_some : (item : List ℕ) (k : ℕ) → IsFirstByte (is_byte 61) item (Some k) → position is_equals item ≡ Some k
position_some item k h = grind (arith, position_or_len_is)

-- an item with no `=`
pub pair_of-none : (item bytes : List ℕ) → bytes ≡ item → IsFirstByte (is_byte 61) bytes None → None ≡ pair_of item
unfolding pair_of
pair_of-none item bytes same h = rw (← same, position_none bytes h) refl

-- an item whose first `=` stands at place k, and its halves as they were cut
pub pair_of-some : (item bytes name value : List ℕ) (k : ℕ) → bytes ≡ item → IsFirstByte (is_byte 61) bytes (Some k)
    → name ≡ trim (slice_range bytes 0 k) → value ≡ trim (slice_range bytes (k + 1) (length bytes))
    → Some (name, value) ≡ pair_of item
unfolding pair_of
pair_of-some item bytes name value k same h front back = let z : k - 0 ≡ k = omega arith in
    rw (← same, position_some bytes k h, front, back, z, take_rest bytes (k + 1)) refl

-- there are no more pairs than items
pub length-pairs : (items : List (List ℕ)) → length (pairs items) ≤ length items
length-pairs [] = omega arith
length-pairs (x ∷ xs) = grind (arith, length-pairs xs)
