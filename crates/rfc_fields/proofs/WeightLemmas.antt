-- Digits of a weight, and the parts of a text.
use Rattle.{headers_syntax.specs.Number.decimal_value, rfc_fields.specs.{Numbers.number_within, Weights.thousandths}}
use Rattle.std.proofs.Common.{List, [], arith, length, option_map, suc, true, ℕ, ◌*◌, ◌+◌, ◌-◌, ◌<◌, ◌^◌, ◌∷◌, ◌≡◌, ◌≤◌}
use Rattle.std.proofs.{Math.Nat.{mul-le-mul_left, pow-suc}, lemmas.Bool.{and_parts, le-leb, leb-true}}
use Rattle.std.{proofs.lemmas.Grind.common_steps, specs.{Char.is_ascii_digit, Str.all_ascii_digits}}

-- what k digits write is below 10 ^ k
below : (s : List ℕ) → all_ascii_digits s ≡ true → decimal_value s < 10 ^ length s
below [] h = omega arith
below (b ∷ s) h =
    let x = and_parts (is_ascii_digit b) (all_ascii_digits s) h in
    let rest = below s x.1 in
    let high : b ≤ 57 = leb-true b 57 (and_parts _ _ x.0).1 in
    let digit : b - 48 ≤ 9 = omega arith in
    let power : 10 ^ suc (length s) ≡ 10 ^ length s * 10 = pow-suc 10 (length s) in
    let most : 10 ^ length s * (b - 48) ≤ 10 ^ length s * 9 = mul-le-mul_left (10 ^ length s) digit in
    omega (arith, rest, most, power)

-- a number with as many digits as its greatest isn't changed by it
pub scaled : (g k scale : ℕ) (s : List ℕ) → length s ≡ suc k → k ≤ 2 → g + 1 ≡ 10 ^ suc k → scale ≡ 10 ^ (3 - suc k)
    → option_map (λ n. n * scale) (number_within g s) ≡ thousandths s
scaled g k scale [] l h e f = absurd (omega arith)
scaled g k scale (b ∷ s) l h e f = grind (arith, common_steps, le-leb, below)
