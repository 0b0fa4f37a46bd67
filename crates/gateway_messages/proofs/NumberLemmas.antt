-- A number that is written in decimal is parsed to itself.
use Rattle.std.proofs.Common.{◌≡◌, ℕ, ◌<◌, ◌≤◌, ◌-◌, ◌^◌, true, List, [], ◌∷◌, length, Some, arith, rules}
use Rattle.std.proofs.lemmas.{Bool.cases_Bool, Fmt.{decimal_nonempty, digits_decimal, digits_value-decimal}}
use Rattle.std.proofs.lemmas.Str.Parse.{IsNumeralModel, numerals_by_weight, tells_all_ascii_digits}
use Rattle.{std.specs.{Prelude.{decimal}, Str.all_ascii_digits}, headers_syntax.specs.Number.decimal_value}
use Rattle.rfc_fields.specs.Numbers.{is_number, number_within}

pub numerals : IsNumeralModel (λ ds. all_ascii_digits ds ≡ true) decimal_value
numerals = numerals_by_weight _ tells_all_ascii_digits decimal_value (search rules)

pub is_number-digits : (s : List ℕ) → all_ascii_digits s ≡ true → 0 < length s → is_number s ≡ true
is_number-digits [] e some = absurd (omega (arith, some))
is_number-digits (b ∷ s) e some = e

pub number_within-decimal : (n : ℕ) → n < 2 ^ 64 → number_within (2 ^ 64 - 1) (decimal n) ≡ Some n
number_within-decimal n fits =
    grind (arith, is_number-digits, digits_decimal, numerals, decimal_nonempty, digits_value-decimal)

-- and no number is greater than the greatest
pub number_within-least : (g : ℕ) (s : List ℕ) (n : ℕ) → number_within g s ≡ Some n → n ≤ g
number_within-least g s n e = grind (arith, cases_Bool)
