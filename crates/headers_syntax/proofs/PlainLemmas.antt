-- Pieces of visible bytes above the quote without a comma: trimming and taking off quotes leaves them, and decimals
-- are such.
use Rattle.headers_syntax.{proofs.StripLemmas.{strip_end, strip_end-none, strip_front}, specs.Text.{is_blank, is_quote}}
use Rattle.{headers_syntax.specs.Text.{is_text, trim, without_quotes}, http_header.specs.Token.is_visible_or_blank}
use Rattle.std.proofs.Common.{Bool, List, [], arith, false, get_or, length, nat_lt, not, refl, true, ℕ, ◌&&◌, ◌-◌, ◌<◌}
use Rattle.std.proofs.{Common.{◌==◌, ◌^◌, ◌∷◌, ◌≡◌, ◌≢◌}, lemmas.{Bool.Decides.nat_tests, Fmt.digits_decimal}}
use Rattle.std.proofs.lemmas.{List.Sums.{AllPass-from_list_all, prefix_len_is}, Str.Parse.numerals_by_value}
use Rattle.std.{proofs.lemmas.Str.Parse.tells_all_ascii_digits, specs.{Char.is_ascii_digit, Fmt.decimal, List.list_all}}
use Rattle.std.specs.{List.prefix_len, Str.all_ascii_digits}

-- a visible byte above the quote that is no comma
abbrev pub is_plain : ℕ → Bool
is_plain b = nat_lt 34 b && (nat_lt b 127 && not (b == 44))

-- a piece of such bytes, one at least
abbrev pub is_piece : List ℕ → Bool
is_piece p = nat_lt 0 (length p) && list_all is_plain p

pub plain_bounds : (b : ℕ) → is_plain b ≡ true → (34 < b) × (b < 127) × (b ≢ 44)
plain_bounds b h = grind (arith, nat_tests)

pub piece_at : (p : List ℕ) → list_all is_plain p ≡ true → (k : ℕ) → k < length p → (34 < get_or p k 0)
    × (get_or p k 0 < 127) × (get_or p k 0 ≢ 44)
piece_at p h k l = plain_bounds (get_or p k 0) (AllPass-from_list_all is_plain p h k 0 l)

-- a test that fails at such bytes strips none
strip_kept : (test : ℕ → Bool) → ((b : ℕ) → 34 < b → test b ≡ false) → (p : List ℕ) → list_all is_plain p ≡ true
    → strip_end test (strip_front test p) ≡ p
strip_kept test fails p h = let none : prefix_len test p ≡ 0 = prefix_len_is test p 0 0 (omega arith)
    (λ k l. absurd (omega arith)) (λ l. fails (get_or p 0 0) (piece_at p h 0 l).0) in
    let last = strip_end-none test p
    (λ l. fails (get_or p (length p - 1) 0) (piece_at p h (length p - 1) (omega arith)).0) in rw none last

pub no_quote : (b : ℕ) → 34 < b → is_quote b ≡ false
no_quote b l = grind (arith, nat_tests)

pub no_blank : (b : ℕ) → 34 < b → is_blank b ≡ false
no_blank b l = grind (arith, nat_tests)

pub trim_piece : (p : List ℕ) → list_all is_plain p ≡ true → trim p ≡ p
trim_piece p h = strip_kept is_blank no_blank p h

pub unquoted_piece : (p : List ℕ) → list_all is_plain p ≡ true → without_quotes p ≡ p
unquoted_piece p h = strip_kept is_quote no_quote p h

pub list_all-weaker : (f g : ℕ → Bool) → ((b : ℕ) → f b ≡ true → g b ≡ true) → (p : List ℕ) → list_all f p ≡ true
    → list_all g p ≡ true
list_all-weaker f g w [] h = refl
list_all-weaker f g w (b ∷ p) h = grind (arith, w b, list_all-weaker f g w p)

plain_visible : (b : ℕ) → is_plain b ≡ true → is_visible_or_blank b ≡ true
plain_visible b h = grind (arith, nat_tests)

pub text_piece : (p : List ℕ) → list_all is_plain p ≡ true → is_text p ≡ true
text_piece p h = list_all-weaker is_plain is_visible_or_blank plain_visible p h

digit_plain : (c : ℕ) → is_ascii_digit c ≡ true → is_plain c ≡ true
digit_plain c h = grind (arith, nat_tests)

digits_plain : (ds : List ℕ) → all_ascii_digits ds ≡ true → list_all is_plain ds ≡ true
digits_plain [] h = refl
digits_plain (c ∷ ds) h = grind (arith, digit_plain c, digits_plain ds)

pub decimal_plain : (n : ℕ) → n < 2 ^ 64 → list_all is_plain (decimal n) ≡ true
decimal_plain n l = digits_plain (decimal n) (digits_decimal (numerals_by_value _ tells_all_ascii_digits) n l)
