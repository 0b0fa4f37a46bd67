-- The number of Age that a cache writes is parsed to itself.
use Rattle.std.proofs.Common.{◌≡◌, ℕ, ◌<◌, ◌^◌, true, false, List, [], ◌∷◌, length, take, Some, refl, ◌∙◌, ap, arith}
use Rattle.std.proofs.lemmas.{Bool.{and_parts, ne_eqb}, List.take_all, Fmt.{decimal_nonempty, digits_decimal}}
use Rattle.std.{proofs.lemmas.Fmt.digits_value-decimal, specs.{Prelude.{decimal, min}, List.{before_first, list_all}}}
use Rattle.{std.specs.List.position_or_len, cache_policy.specs.Fields.{age_of, capped, greatest, is_comma}}
use Rattle.{rfc_fields.specs.Numbers.number_within, gateway_messages.proofs.NumberLemmas.{is_number-digits, numerals}}
use Rattle.headers_syntax.{specs.{Number.decimal_value, Text.trim}, proofs.PlainLemmas.{decimal_plain, is_plain}}
use Rattle.headers_syntax.proofs.PlainLemmas.{plain_bounds, trim_piece}

no_comma : (p : List ℕ) → list_all is_plain p ≡ true → position_or_len is_comma p ≡ length p
no_comma [] h = refl
no_comma (b ∷ p) h =
    let x = and_parts (is_plain b) (list_all is_plain p) h in
    let other : is_comma b ≡ false = ne_eqb b 44 (plain_bounds b x.0).2 in
    let rest : position_or_len is_comma p ≡ length p = no_comma p x.1 in rw other (omega (arith, rest))

parsed : (n : ℕ) → n < 2 ^ 64 → number_within greatest (decimal n) ≡ Some n
parsed n fits =
    let number = is_number-digits (decimal n) (digits_decimal numerals n fits) (decimal_nonempty n fits) in
    let value : decimal_value (decimal n) ≡ n = digits_value-decimal numerals n fits in
    let least : min n greatest ≡ n = omega (arith, fits) in rw (number, value) (ap (λ (k : ℕ). Some k) least)

pub age_of-decimal : (n : ℕ) → age_of (decimal (capped n) ∷ []) ≡ capped n
age_of-decimal n =
    let fits : capped n < 2 ^ 64 = omega arith in
    let text = decimal (capped n) in
    let plain = decimal_plain (capped n) fits in
    let whole : before_first is_comma text ≡ text =
    ap (λ (k : ℕ). take k text) (no_comma text plain) ∙ take_all (length text) text (omega arith) in
    let same : trim (before_first is_comma text) ≡ text = ap trim whole ∙ trim_piece text plain in
    rw same (rw (parsed (capped n) fits) refl)
