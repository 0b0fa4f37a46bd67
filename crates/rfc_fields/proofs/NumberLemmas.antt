-- Digits, read with a greatest number.
use Rattle.std.proofs.Common.{◌≡◌, ℕ, ◌+◌, ◌-◌, ◌*◌, ◌^◌, Bool, cond, List, [], ◌∷◌, length, Option, Some, None, ◌∙◌}
use Rattle.std.{proofs.{Common.{ap, arith}, Math.Nat.pow-suc}, specs.Prelude.{◌&&◌, min, option_and_then}}
use Rattle.{std.specs.{Char.is_ascii_digit, Str.all_ascii_digits}, headers_syntax.specs.Number.decimal_value}
use Rattle.rfc_fields.specs.Numbers.{with_digit, number_within}

-- the number once the rest of the digits is read
unfoldable pub number_from : ℕ → Option ℕ → List ℕ → Option ℕ
number_from g m [] = m
number_from g m (b ∷ s) = option_and_then (λ n. number_from g (Some n) s) (with_digit g m b)

-- the greatest of a step is that of the whole
cap_step : (n d g : ℕ) → min (min n g * 10 + d) g ≡ min (n * 10 + d) g
cap_step n d g = omega arith

-- a digit weighs ten times as much before one more
weigh : (n d p q v : ℕ) → q ≡ p * 10 → (n * 10 + d) * p + v ≡ n * q + (d * p + v)
weigh n d p q v e = rw e (omega arith)

digit_step : (g n m b : ℕ) (s : List ℕ) (c : Bool)
    → number_from g (Some m) s ≡ cond (all_ascii_digits s) (Some (min (n * 10 ^ length s + decimal_value s) g)) None
    → option_and_then (λ k. number_from g (Some k) s) (cond c (Some m) None)
    ≡ cond (c && all_ascii_digits s) (Some (min (n * 10 ^ length s + decimal_value s) g)) None
digit_step g n m b s c h = grind arith

number_some : (g n m : ℕ) (s : List ℕ) → m ≡ min n g
    → number_from g (Some m) s ≡ cond (all_ascii_digits s) (Some (min (n * 10 ^ length s + decimal_value s) g)) None
unfolding number_from
number_some g n m [] e = ap (λ k. Some k) (e ∙ ap (λ k. min k g) (omega arith))
number_some g n m (b ∷ s) e =
    let d = b - 48 in
    let next : min (m * 10 + d) g ≡ min (n * 10 + d) g = ap (λ k. min (k * 10 + d) g) e ∙ cap_step n d g in
    digit_step g _ _ b s _ (number_some g (n * 10 + d) (min (m * 10 + d) g) s next) ∙ ap
    (λ k. cond (is_ascii_digit b && all_ascii_digits s) (Some (min k g)) None) (weigh n d _ _ _ (pow-suc 10 (length s)))

-- the loop reads the number
pub number_from-none : (g : ℕ) (s : List ℕ) → number_from g None s ≡ number_within g s
unfolding number_from
number_from-none g s = grind (arith, digit_step, number_some, is_ascii_digit, all_ascii_digits)

-- the loop's fact, carried over an octet and to the end
pub number_from-next : (g : ℕ) (m r : Option ℕ) (b : ℕ) (left rest : List ℕ) (all : Option ℕ) → left ≡ b ∷ rest
    → r ≡ with_digit g m b → all ≡ number_from g m left → all ≡ option_and_then (λ n. number_from g (Some n) rest) r
unfolding number_from
number_from-next g m r b left rest all e d a = grind (arith, option_and_then)

pub number_from-end : (g : ℕ) (m : Option ℕ) (left : List ℕ) (all : Option ℕ) → left ≡ [] → all ≡ number_from g m left
    → all ≡ m
unfolding number_from
number_from-end g m left all e a = a ∙ ap (number_from g m) e
