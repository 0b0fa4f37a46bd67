-- Digits are read one at a time.
use Rattle.{headers_syntax.specs.Number.decimal_value, std.proofs.Common.{List, ap, arith, false, inl, inr, length}}
use Rattle.std.proofs.Common.{refl, rules, suc, true, ℕ, ◌*◌, ◌+◌, ◌-◌, ◌<◌, ◌^◌, ◌∙◌, ◌∷◌, ◌≡◌, ◌≤◌, ◌⊎◌}
use Rattle.std.proofs.Math.{ListN.{drop, drop_of_length-le, get_or}, Nat.{pow-le-pow_right, pow-suc}}
use Rattle.std.proofs.lemmas.{Bool.{and_from, le-leb}, Grind.common_steps, List.{drop_more, length-drop}}
use Rattle.std.specs.{Char.is_ascii_digit, Str.all_ascii_digits}

-- the digits before `at` write n
pub record IsRead (ds : List ℕ) (at n : ℕ) : Type 0 where
  pub value : decimal_value ds ≡ n * 10 ^ (length ds - at) + decimal_value (drop at ds)
  pub plain : all_ascii_digits ds ≡ all_ascii_digits (drop at ds)
  pub small : n < 10 ^ at

pub begun : (ds : List ℕ) → IsRead ds 0 0
begun ds = record { value = omega arith; plain = refl; small = omega arith }

product : (n d p : ℕ) → (n * 10 + d) * p ≡ n * (p * 10) + d * p
product n d p = grind arith

-- the number of `at` digits, at most nineteen, and one more fits
pub fits : (at n d : ℕ) → at < 19 → n < 10 ^ at → d < 10 → n * 10 + d < 2 ^ 64
fits at n d h small digit = let more : 10 ^ suc at ≡ 10 ^ at * 10 = pow-suc 10 at in
    let most : 10 ^ suc at ≤ 10 ^ 19 = pow-le-pow_right {n = 10} (omega arith) {i = suc at} {j = 19} (omega arith) in
    omega (arith, more, most)

grown : (at n d : ℕ) → n < 10 ^ at → d < 10 → n * 10 + d < 10 ^ (at + 1)
grown at n d small digit = grind (arith, common_steps)

low_digit : (c : ℕ) → c < 48 → is_ascii_digit c ≡ false
low_digit c low = search (rules, low)

high_digit : (c : ℕ) → 57 < c → is_ascii_digit c ≡ false
high_digit c high = search (rules, high)

digit : (c : ℕ) → 48 ≤ c → c ≤ 57 → is_ascii_digit c ≡ true
digit c low high = and_from _ _ (le-leb _ _ low) (le-leb _ _ high)

module _ (ds : List ℕ) (at n : ℕ) (read : IsRead ds at n) (within : at < length ds) where
  abbrev pub byte : ℕ
  byte = get_or ds at 0

  left : drop at ds ≡ byte ∷ drop (at + 1) ds
  left = drop_more ds at 0 within

  no_digit_at : is_ascii_digit byte ≡ false → all_ascii_digits ds ≡ false
  no_digit_at e = read.plain ∙ ap (λ l. all_ascii_digits l) left ∙ rw e refl

  pub no_digit : (byte < 48) ⊎ ((48 ≤ byte) × (57 < byte)) → all_ascii_digits ds ≡ false
  no_digit (inl low) = no_digit_at (low_digit byte low)
  no_digit (inr high) = no_digit_at (high_digit byte high.1)

  module _ (low : 48 ≤ byte) (high : byte ≤ 57) where
    power : 10 ^ (length ds - at) ≡ 10 ^ length (drop (at + 1) ds) * 10
    power = let e : length ds - at ≡ suc (length (drop (at + 1) ds)) = omega (arith, length-drop (at + 1) ds) in
        ap (λ k. 10 ^ k) e ∙ pow-suc 10 (length (drop (at + 1) ds))

    pub step : IsRead ds (at + 1) (n * 10 + (byte - 48))
    step = grind (arith, common_steps, drop, byte, left, power, length-drop, product, digit, grown)

pub finished : (ds : List ℕ) (at n : ℕ) → IsRead ds at n → length ds ≤ at
    → (all_ascii_digits ds ≡ true) × (n ≡ decimal_value ds)
finished ds at n read end = grind (arith, drop_of_length-le ds end, drop)
