-- A slice of a slice, and where a piece is trimmed.
use Rattle.{headers_syntax.specs.Text.{is_blank, trim}, std.proofs.Common.{List, arith, drop, length, take, ℕ, ◌+◌}}
use Rattle.std.proofs.{Common.{◌-◌, ◌≡◌, ◌≤◌}, lemmas.{Grind.common_steps, List.{drop-drop, drop-take, take-take}}}
use Rattle.std.{proofs.lemmas.List.take_rest, specs.List.{prefix_len, slice_range, suffix_len}}

-- the part of n from place `low` of a slice, as a slice of the whole
pub slice_slice : {X : Type 0} (s : List X) (start end low n : ℕ) → start ≤ end → (start + low) + n ≤ end
    → slice_range s (start + low) ((start + low) + n) ≡ take n (drop low (slice_range s start end))
slice_slice s start end low n le fit = let a : ((start + low) + n) - (start + low) ≡ n = omega arith in
    let b : low + ((end - start) - low) ≡ end - start = omega arith in
    grind (arith, common_steps, take, drop, drop-drop, take-take, drop-take)

-- a trim by its two lengths
pub trim_from_lengths : (piece : List ℕ) (low n : ℕ) → low ≡ prefix_len is_blank piece
    → n ≡ length (take (length piece - low) (drop low piece)) - suffix_len is_blank
    (take (length piece - low) (drop low piece)) → take n (drop low piece) ≡ trim piece
trim_from_lengths piece low n a b = grind (arith, common_steps, take_rest, drop)
