-- What `parse` reads of a line is its number, and a printed number is read back.
use Rattle.headers_syntax.specs.{Lines.Line, Number.{after_plus, decimal_value, is_numeral, number}}
use Rattle.{http_header.specs.{FieldValue.IsVisibleAscii, Token.is_visible_or_blank}, std.proofs.Common.{Err, None, Ok}}
use Rattle.std.proofs.Common.{Result, Some, [], ap, arith, false, get_or, if◌then◌else◌, inl, inr, length, refl, rules}
use Rattle.std.proofs.{Common.{subst, sym, true, ℕ, ◌<◌, ◌==◌, ◌^◌, ◌∷◌, ◌≡◌, ◌≢◌, ◌≤◌}, lemmas.Bool.and_parts}
use Rattle.std.proofs.lemmas.Bool.{cases_Bool, eqb-false, eqb-true, false_from_ne_true, Decides.nat_tests}
use Rattle.std.proofs.lemmas.{Fmt.{decimal_nonempty, digits_decimal, digits_value-decimal}, Grind.common_steps}
use Rattle.std.proofs.lemmas.{List.Elements.All-cons, Str.Parse.{IsNumeralModel, not_in_digits, numerals_by_weight}}
use Rattle.std.{proofs.lemmas.Str.Parse.{parse_plain, parse_plus, tells_all_ascii_digits}, specs.Char.is_ascii_digit}
use Rattle.std.specs.{Fmt.decimal, Result.{OkIff, result_ok}, Str.{all_ascii_digits, Parse.ParsesUnsigned}}

own : IsNumeralModel (λ ds. all_ascii_digits ds ≡ true) decimal_value
own = numerals_by_weight _ tells_all_ascii_digits decimal_value (search rules)

-- the digits are a numeral
abbrev IsNumeral64 : Line → Type 0
IsNumeral64 d = (all_ascii_digits d ≡ true) × (0 < length d) × (decimal_value d < 2 ^ 64)

is_numeral-true : (d : Line) → IsNumeral64 d → is_numeral d ≡ true
is_numeral-true d h = grind (arith, nat_tests)

is_numeral-parts : (d : Line) → is_numeral d ≡ true → IsNumeral64 d
is_numeral-parts d e = grind (arith, nat_tests)

is_numeral-false : (d : Line) → ¬ (IsNumeral64 d) → is_numeral d ≡ false
is_numeral-false d h = false_from_ne_true (is_numeral d) (λ e. h (is_numeral-parts d e))

parse_after_plus : {E : Type 0} (line : Line) (r : Result ℕ E) → ParsesUnsigned 64 10 line r
    → OkIff r (IsNumeral64 (after_plus line)) (decimal_value (after_plus line))
parse_after_plus x1 r h = grind (arith, parse_plain, own, parse_plus, eqb-false)

pub number-parse : {E : Type 0} (line : Line) (r : Result ℕ E) → ParsesUnsigned 64 10 line r → number line ≡ result_ok r
unfolding number
number-parse {E} line (Ok n) h = let p = parse_after_plus {E = E} line (Ok n) h in
    rw (is_numeral-true (after_plus line) p.0) (ap (λ (m : ℕ). Some m) (sym p.1))
number-parse {E} line (Err e) h = rw (is_numeral-false (after_plus line) (parse_after_plus {E = E} line (Err e) h))

-- the number of a line by what follows its plus
pub number-digits : (line digits : Line) → digits ≡ after_plus line
    → (if is_numeral digits then Some (decimal_value digits) else None) ≡ number line
unfolding number
number-digits line digits e = rw e refl

-- a first byte that is no plus stays
after_plus-same : (line : Line) → get_or line 0 0 ≢ 43 → after_plus line ≡ line
after_plus-same [] h = refl
after_plus-same (c ∷ cs) h = elim (cases_Bool (c == 43)) [ inl t ↦ absurd (h (eqb-true _ _ t)) | inr f ↦ rw f ]

pub number-decimal : (n : ℕ) → n < 2 ^ 64 → number (decimal n) ≡ Some n
unfolding number
number-decimal n h = let digits = digits_decimal own n h in let some = decimal_nonempty n h in
    let value = digits_value-decimal own n h in
    let bare = after_plus-same (decimal n) (not_in_digits own (decimal n) 43 digits (λ r. omega (arith, r)) 0 some) in
    rw (bare, is_numeral-true (decimal n) (digits, some, subst (λ (m : ℕ). m < 2 ^ 64) (sym value) h), value)

pub number-lt : (line : Line) (n : ℕ) → number line ≡ Some n → n < 2 ^ 64
unfolding number
number-lt line n e = grind (arith, is_numeral-parts (after_plus line))

pub visible : (c : ℕ) → 32 ≤ c → c < 127 → is_visible_or_blank c ≡ true
visible c low high = grind (arith, nat_tests)

digits_visible : (ds : Line) → all_ascii_digits ds ≡ true → IsVisibleAscii ds
digits_visible [] e = λ k d h. absurd (omega (arith, h))
digits_visible (c ∷ cs) e = let p = and_parts (is_ascii_digit c) (all_ascii_digits cs) e in
    grind (arith, All-cons, digits_visible cs p.1)

visible_from_digits : (line : Line) → all_ascii_digits (after_plus line) ≡ true → IsVisibleAscii line
visible_from_digits [] e = digits_visible [] refl
visible_from_digits (c ∷ cs) e = grind (arith, common_steps, All-cons, visible, digits_visible)

-- a value that is not visible ASCII writes no number
pub number-none : (line : Line) → ¬ (IsVisibleAscii line) → number line ≡ None
unfolding number
number-none line h = rw (is_numeral-false (after_plus line) (λ n. h (visible_from_digits line n.0)))

pub number-no_digits : (line : Line) → all_ascii_digits (after_plus line) ≡ false → number line ≡ None
unfolding number
number-no_digits line h = rw (is_numeral-false (after_plus line) (λ n. cc (n.0, h)))
