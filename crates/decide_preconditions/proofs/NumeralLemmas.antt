-- Numerals: the greatest number that is kept, and their order by their digits.
use Rattle.std.proofs.Common.{◌≡◌, ℕ, ◌+◌, ◌-◌, ◌*◌, ◌<◌, ◌≤◌, true, false, ◌==◌, nat_lt, nat_le, min, List, [], ◌∷◌}
use Rattle.std.proofs.{Common.{length, take, get_or, refl, sym, ap, ◌∙◌, arith, inl, inr}, lemmas.Bool.cases_Bool}
use Rattle.std.proofs.lemmas.Bool.{and_parts, eqb-true, eqb-false, eq-eqb, ne_eqb, ltb-true, ltb-false, lt-ltb, le-ltb}
use Rattle.std.proofs.lemmas.{Bool.{le-leb, lt-leb, cases_order, Decides.nat_tests}, Int.Digits.digits_value_more}
use Rattle.std.{proofs.lemmas.List.Sums.AllPass-from_list_all, specs.{Prelude.⊤, Char.{digit_value, is_ascii_digit}}}
use Rattle.std.specs.{List.list_all, Str.Parse.{digits_value, digits_value_after}}
use Rattle.decide_preconditions.specs.{NumeralOrder.{is_below, is_ordered, without_zeros}, RangeSets.{capped, greatest}}
use Rattle.decide_preconditions.specs.RangeSets.{is_numeral}

digit_low : (b : ℕ) → is_ascii_digit b ≡ true → (48 ≤ b) × (b ≤ 57)
digit_low b h = (grind (arith, nat_tests), grind (arith, nat_tests))

digit_of : (b : ℕ) → is_ascii_digit b ≡ true → digit_value b ≡ b - 48
digit_of b h = grind (arith, digit_low, le-ltb, lt-ltb)

-- one digit more
pub capped_more : (digits : List ℕ) (i : ℕ) → i < length digits → is_numeral digits ≡ true
    → min (min (capped (take i digits) * 10) greatest + (get_or digits i 0 - 48)) greatest
    ≡ capped (take (i + 1) digits)
capped_more digits i l h =
    let all = (and_parts (nat_lt 0 (length digits)) (list_all is_ascii_digit digits) h).1 in
    let d = digit_of (get_or digits i 0) (AllPass-from_list_all is_ascii_digit digits all i 0 l) in
    let m = digits_value_more 10 digits i l in
    omega (arith, d, m)

-- ---- order

first_digit : (b : ℕ) (digits : List ℕ) → list_all is_ascii_digit (b ∷ digits) ≡ true
    → (is_ascii_digit b ≡ true) × (list_all is_ascii_digit digits ≡ true)
first_digit b digits h = and_parts (is_ascii_digit b) (list_all is_ascii_digit digits) h

-- as many digits after a lower number write a lower number
after_lower : (v w : ℕ) (ds es : List ℕ) → length ds ≡ length es → list_all is_ascii_digit ds ≡ true
    → list_all is_ascii_digit es ≡ true → v < w → digits_value_after 10 v ds < digits_value_after 10 w es
after_lower v w [] [] e h k l = l
after_lower v w [] (c ∷ es) e h k l = absurd (omega (arith, e))
after_lower v w (b ∷ ds) [] e h k l = absurd (omega (arith, e))
after_lower v w (b ∷ ds) (c ∷ es) e h k l = grind (
  arith,
  first_digit,
  digit_of,
  digit_low,
  digit_value,
  after_lower (v * 10 + digit_value b) (w * 10 +
      digit_value c) ds es (omega (arith, e)) (first_digit b ds h).1 (first_digit c es k).1 (omega (
        arith,
        l,
        (digit_of b (first_digit b ds h).0),
        ((digit_low b (first_digit b ds h).0).1),
      )),
)

-- more digits after a number above zero write a greater number than fewer digits
fewer_lower : (w : ℕ) (ds es : List ℕ) → length ds < length es → list_all is_ascii_digit ds ≡ true
    → list_all is_ascii_digit es ≡ true → 0 < w → digits_value_after 10 0 ds < digits_value_after 10 w es
fewer_lower w ds [] e h k l = absurd (omega (arith, e))
fewer_lower w ds (c ∷ es) e h k l =
    let g = first_digit c es k in
    let up : 0 < w * 10 + digit_value c = omega (arith, l) in
    elim (cases_Bool (nat_lt (length ds) (length es))) [
      | inl y ↦ fewer_lower (w * 10 + digit_value c) ds es (ltb-true _ _ y) h g.1 up
      | inr n ↦
          let less = ltb-false _ _ n in
          let same : length ds ≡ length es = omega (arith, less, e) in
          after_lower 0 (w * 10 + digit_value c) ds es same h g.1 up
    ]

below_is : (v : ℕ) (ds es : List ℕ) → length ds ≡ length es → list_all is_ascii_digit ds ≡ true
    → list_all is_ascii_digit es ≡ true
    → is_below ds es ≡ nat_le (digits_value_after 10 v ds) (digits_value_after 10 v es)
unfolding is_below
below_is v [] [] e h k = sym (le-leb v v (omega arith))
below_is v [] (c ∷ es) e h k = absurd (omega (arith, e))
below_is v (b ∷ ds) [] e h k = absurd (omega (arith, e))
below_is v (b ∷ ds) (c ∷ es) e h k =
    let f = first_digit b ds h in
    let g = first_digit c es k in
    let m = digit_of b f.0 in
    let n = digit_of c g.0 in
    let low = digit_low b f.0 in
    let from = low.0 in
    let more = digit_low c g.0 in
    let from_other = more.0 in
    let lengths : length ds ≡ length es = omega (arith, e) in
    elim (cases_order b c) [
      | inl same ↦
          rw (eq-eqb b c same) (below_is (v * 10 + digit_value b) ds es lengths f.1 g.1
          ∙ ap (λ d. nat_le (digits_value_after 10 (v * 10 + digit_value b) ds)
          (digits_value_after 10 (v * 10 + digit_value d) es)) same)
      | inr (inl less) ↦
          let differ : b ≡ c → ⊥ = λ q. omega (arith, q, less) in
          let lower = after_lower (v * 10 + digit_value b) (v * 10 + digit_value c) ds es lengths f.1 g.1
          (omega (arith, m, n, less, from)) in
          rw (ne_eqb b c differ) (lt-ltb b c less ∙ sym (le-leb _ _ (omega (arith, lower))))
      | inr (inr greater) ↦
          let differ : b ≡ c → ⊥ = λ q. omega (arith, q, greater) in
          let lower = after_lower (v * 10 + digit_value c) (v * 10 + digit_value b) es ds (sym lengths) g.1 f.1
          (omega (arith, m, n, greater, from_other)) in
          rw (ne_eqb b c differ) (le-ltb b c (omega (arith, greater)) ∙ sym (lt-leb _ _ lower))
    ]

-- ---- zeros before a numeral

abbrev NoZero : List ℕ → Type 0
NoZero [] = ⊤
NoZero (b ∷ digits) = (b == 48) ≡ false

no_zero : (digits : List ℕ) → NoZero (without_zeros digits)
unfolding without_zeros
no_zero [] = tt
no_zero (b ∷ digits) = grind (arith, cases_Bool, no_zero digits)

value_without : (digits : List ℕ) → digits_value 10 (without_zeros digits) ≡ digits_value 10 digits
unfolding without_zeros
value_without [] = refl
value_without (b ∷ digits) = grind (arith, cases_Bool, eqb-true, digits_value_after, digit_value, value_without digits)

digits_without : (digits : List ℕ) → list_all is_ascii_digit digits ≡ true
    → list_all is_ascii_digit (without_zeros digits) ≡ true
unfolding without_zeros
digits_without [] h = refl
digits_without (b ∷ digits) h = grind (arith, cases_Bool, first_digit, digits_without digits (first_digit b digits h).1)

shorter_lower : (ds es : List ℕ) → length ds < length es → list_all is_ascii_digit ds ≡ true
    → list_all is_ascii_digit es ≡ true → NoZero es → digits_value 10 ds < digits_value 10 es
shorter_lower ds es e h k z = grind (
  arith,
  first_digit,
  digit_of,
  digit_low,
  eqb-false,
  digit_value,
  cases_order,
  cases_Bool,
  nat_lt,
  fewer_lower,
  ltb-true,
  ltb-false,
  after_lower,
)

ordered_is : (ds es : List ℕ) → list_all is_ascii_digit ds ≡ true → list_all is_ascii_digit es ≡ true
    → NoZero ds → NoZero es → is_ordered ds es ≡ nat_le (digits_value 10 ds) (digits_value 10 es)
ordered_is ds es h k y z =
    grind (arith, cases_order, eq-eqb, below_is, shorter_lower, ne_eqb, lt-ltb, le-leb, le-ltb, lt-leb)

-- the order of two numerals is that of their numbers
pub order_of_numerals : (ds es : List ℕ) → is_numeral ds ≡ true → is_numeral es ≡ true
    → is_ordered (without_zeros ds) (without_zeros es) ≡ nat_le (digits_value 10 ds) (digits_value 10 es)
order_of_numerals ds es h k = grind (
  arith,
  and_parts,
  nat_lt,
  is_ascii_digit,
  ordered_is,
  digits_without,
  no_zero,
  nat_le,
  digits_value,
  value_without,
)
