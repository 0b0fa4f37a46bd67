-- Numbers as they are printed, and the texts that they are part of.
use Rattle.std.proofs.Common.{◌≡◌, ℕ, ◌<◌, ◌^◌, Bool, true, false, not, ◌==◌, List, [], ◌∷◌, Option, Some, None, refl}
use Rattle.std.{proofs.Common.{sym, ap, ◌∙◌, subst, arith}, specs.Prelude.decimal, specs.Char.is_ascii_digit}
use Rattle.std.{specs.List.list_all, specs.Str.all_ascii_digits, proofs.lemmas.Bool.{and_parts, and_from, ne_eqb}}
use Rattle.std.{proofs.lemmas.Bool.Decides.nat_tests, proofs.lemmas.Fmt.digits_decimal}
use Rattle.std.proofs.lemmas.Str.Parse.{numerals_by_value, tells_all_ascii_digits}
use Rattle.http_header.specs.Token.{is_visible_or_blank}
use Rattle.headers_syntax.{specs.Text.is_text, proofs.TextLemmas.list_all-both}
use Rattle.headers_ranges.{specs.ByteRanges.{is_range_line, bytes_from_to}, specs.ContentBytes.FitsOption}
use Rattle.headers_ranges.specs.CutLaws.{Lacks}

-- a number below 2^64 is printed in digits
decimal_digits : (n : ℕ) → n < 2 ^ 64 → all_ascii_digits (decimal n) ≡ true
decimal_digits n h = digits_decimal (numerals_by_value _ tells_all_ascii_digits) n h

digit_visible : (c : ℕ) → is_ascii_digit c ≡ true → is_visible_or_blank c ≡ true
digit_visible c h = grind (arith, nat_tests)

-- a test that digits pass
digits_pass : (test : ℕ → Bool) → ((c : ℕ) → is_ascii_digit c ≡ true → test c ≡ true) → (ds : List ℕ)
    → all_ascii_digits ds ≡ true → list_all test ds ≡ true
digits_pass test passes [] h = refl
digits_pass test passes (c ∷ ds) h =
    let p = and_parts (is_ascii_digit c) (all_ascii_digits ds) h in and_from _ _ (passes c p.0)
    (digits_pass test passes ds p.1)

pub decimal_text : (n : ℕ) → n < 2 ^ 64 → is_text (decimal n) ≡ true
decimal_text n h = digits_pass is_visible_or_blank digit_visible (decimal n) (decimal_digits n h)

-- only digits are in it
pub decimal_lacks : (n c : ℕ) → n < 2 ^ 64 → is_ascii_digit c ≡ false → Lacks c (decimal n)
decimal_lacks n c h other = digits_pass (λ b. not (b == c))
    (λ b d. ap not (ne_eqb b c (λ e. let no : is_ascii_digit c ≡ true = ap is_ascii_digit (sym e)
    ∙ d in absurd (cc (no, other))))) (decimal n) (decimal_digits n h)

-- what fits
pub fits_some : (n : ℕ) → n < 2 ^ 64 → FitsOption (Some n)
fits_some n h m e = let same : n ≡ m = cc e in subst (λ (k : ℕ). k < 2 ^ 64) same h

pub fits_none : FitsOption None
fits_none m e = absurd (cc e)

printed_text : (first : ℕ) (last : Option ℕ) → first < 2 ^ 64 → FitsOption last
    → is_text (bytes_from_to first last) ≡ true
printed_text first None f g = list_all-both is_visible_or_blank (decimal first) (45 ∷ []) (decimal_text first f) refl
printed_text first (Some last) f g = list_all-both is_visible_or_blank (decimal first) (45 ∷ decimal last)
    (decimal_text first f)
    (decimal_text last (g last refl))

-- the text of a range is a field line of Range
pub printed_range : (first : ℕ) (last : Option ℕ) → first < 2 ^ 64 → FitsOption last
    → is_range_line (bytes_from_to first last) ≡ true
unfolding is_range_line
printed_range first None f g = and_from _ _ (printed_text first None f g) refl
printed_range first (Some last) f g = and_from _ _ (printed_text first (Some last) f g) refl
