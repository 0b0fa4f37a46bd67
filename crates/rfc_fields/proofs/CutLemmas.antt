-- A search for a byte finds where a text is cut.
use Rattle.std.proofs.Common.{◌≡◌, ℕ, not, ◌==◌, Bool, List, length, Option, arith, ap, position}
use Rattle.std.proofs.lemmas.{Bool.{false_from_ne_true, le-ltb, lt-ltb}, List.Sums.prefix_len_is}
use Rattle.{std.specs.List.position_or_len, memchr.specs.Find.{IsFirstByte, NoneBefore, Nowhere, Passes, is_byte}}

abbrev is_at : ℕ → ℕ → Bool
is_at c b = b == c

place_at : (c : ℕ) (s : List ℕ) (k : ℕ) → NoneBefore (Passes (is_byte c) s) 0 (length s) k
    → Passes (is_byte c) s k → position_or_len (is_at c) s ≡ k
place_at c s k n h = grind (arith, prefix_len_is, false_from_ne_true)

place_none : (c : ℕ) (s : List ℕ) → Nowhere (Passes (is_byte c) s) 0 (length s) → position_or_len (is_at c) s ≡ length s
place_none c s n = prefix_len_is (λ b. not (is_at c b)) s (length s) 0 (omega arith)
    (λ j m. ap not (false_from_ne_true _ (n j (omega arith) m))) (λ m. absurd (omega (arith, m)))

pub place_found : (c : ℕ) (s : List ℕ) (found : Option ℕ) → IsFirstByte (is_byte c) s found
    → position (is_at c) s ≡ found
place_found c s found h = grind (arith, place_none, le-ltb, place_at, lt-ltb)
