-- Value-chars by the grammar, and texts that are written as such.
use Rattle.std.proofs.Common.{◌≡◌, ◌≢◌, ◌∙◌, ℕ, ◌+◌, ◌/◌, ◌%◌, ◌<◌, Bool, true, false, not, cond, List, [], ◌∷◌, ◌++◌}
use Rattle.std.proofs.Common.{length, map, take, drop, Option, Some, None, ap, arith, codes, option_and_then}
use Rattle.std.proofs.{Common.{option_map, refl, sym}, lemmas.Bool.{and_parts, eqb-true, lt-ltb, ltb-true}}
use Rattle.std.{proofs.lemmas.Bool.Decides.nat_tests, specs.{Prelude.{◌&&◌, ◌==◌}, Char.digit_value}}
use Rattle.std.specs.{Char.is_ascii_hexdigit, Fmt.digit_glyph, List.{flat_map, list_all}, Option.option_map_or}
use Rattle.percent_encoding.specs.Percent.{percent_decode, percent_encode_byte}
use Rattle.percent_encoding.proofs.PercentLemmas.{percent_decode-nil, percent_decode_escape, percent_decode_not_percent}
use Rattle.{rfc_fields.specs.Cuts.cut, rfc_lists.specs.Extended.{ValueChar, ValueChar.{Plain, Encoded}, apostrophe}}
use Rattle.rfc_lists.specs.Extended.{are_value_chars, char_octet, char_text, encoded, is_attr_char, decoded_in}
use Rattle.rfc_lists.specs.{Extended.{is_value_char, text_after, text_in, utf8_text}, Laws.AreChars}
use Rattle.rfc_lists.specs.Laws.{ExtendedReadsBack, ValueCharsAreSuch, ValueCharsParse, is_byte}

false_true : false ≡ true → ⊥
false_true e = cc

not_true : (c : Bool) → not c ≡ true → c ≡ false
not_true false h = refl
not_true true h = cc

-- an attr-char is no percent sign
no_percent : (b : ℕ) → is_attr_char b ≡ true → (b == 37) ≡ false
no_percent b h = not_true (b == 37) (and_parts _ (not (b == 37)) h).1

hex_small : (b : ℕ) → is_ascii_hexdigit b ≡ true → digit_value b < 16
hex_small b h = grind (arith, nat_tests)

abbrev goes_on : List ℕ → Option ℕ → Bool
goes_on text due = option_map_or (λ next. are_value_chars next text) due false

plain_on : (b : ℕ) (text : List ℕ) → is_attr_char b ≡ true → are_value_chars 0 (b ∷ text) ≡ are_value_chars 0 text
unfolding are_value_chars
plain_on b text h = ap (λ k. goes_on text (cond k (Some 2) (cond (is_attr_char b) (Some 0) None))) (no_percent b h)
    ∙ ap (λ k. goes_on text (cond k (Some 0) None)) h

encoded_on : (high low : ℕ) (text : List ℕ) → is_ascii_hexdigit high ≡ true → is_ascii_hexdigit low ≡ true
    → are_value_chars 0 (37 ∷ high ∷ low ∷ text) ≡ are_value_chars 0 text
unfolding are_value_chars
encoded_on high low text h l =
    ap (λ k. goes_on (low ∷ text) (cond k (Some 1) None)) h ∙ ap (λ k. goes_on text (cond k (Some 0) None)) l

pub value_chars_parse : ValueCharsParse
unfolding are_value_chars
value_chars_parse [] h = (refl, percent_decode-nil)
value_chars_parse (Plain b ∷ chars) h =
    let x = and_parts (is_attr_char b) (list_all is_value_char chars) h in
    let n = no_percent b x.0 in
    let differs : b ≢ 37 = λ e. false_true (sym n ∙ ap (λ k. k == 37) e) in
    let rest = value_chars_parse chars x.1 in
    let text = flat_map char_text chars in
    (plain_on b text x.0 ∙ rest.0, percent_decode_not_percent b text differs ∙ ap (λ t. b ∷ t) rest.1)
value_chars_parse (Encoded high low ∷ chars) h =
    let x = and_parts (is_value_char (Encoded high low)) (list_all is_value_char chars) h in
    let y = and_parts (is_ascii_hexdigit high) (is_ascii_hexdigit low) x.0 in
    let rest = value_chars_parse chars x.1 in
    let text = flat_map char_text chars in
    let escape = percent_decode_escape 37 high low text refl (hex_small high y.0) (hex_small low y.1) in
    (encoded_on high low text y.0 y.1 ∙ rest.0, escape ∙ ap (λ t. char_octet (Encoded high low) ∷ t) rest.1)

-- ---- what is found to be value-chars

pub record Chars (text : List ℕ) : Type 0 where
  pub chars : List ValueChar
  pub are : AreChars text chars

abbrev pub Due : ℕ → List ℕ → Type 0
Due due text = are_value_chars due text ≡ true

plain_case : (b : ℕ) (text : List ℕ) → is_attr_char b ≡ true → Chars text → Chars (b ∷ text)
plain_case b text h r = record {
  chars = Plain b ∷ r.chars;
  are = record {
    valid = ap (λ x. x && list_all is_value_char r.chars) h ∙ r.are.valid;
    written = ap (λ t. b ∷ t) r.are.written;
  };
}

encoded_case : (b high low : ℕ) (text : List ℕ) → b ≡ 37 → is_ascii_hexdigit high ≡ true → is_ascii_hexdigit low ≡ true
    → Chars text → Chars (b ∷ high ∷ low ∷ text)
encoded_case b high low text e h l r = record {
  chars = Encoded high low ∷ r.chars;
  are = record {
    valid = ap (λ x. (x && is_ascii_hexdigit low) && list_all is_value_char r.chars) h
        ∙ ap (λ x. x && list_all is_value_char r.chars) l ∙ r.are.valid;
    written = ap (λ x. x ∷ high ∷ low ∷ text) e ∙ ap (λ t. 37 ∷ high ∷ low ∷ t) r.are.written;
  };
}

-- a byte that is no percent sign
other_case : (b : ℕ) (text : List ℕ) (k : Bool) → is_attr_char b ≡ k → goes_on text (cond k (Some 0) None) ≡ true
    → (Due 0 text → Chars text) → Chars (b ∷ text)
other_case b text true e h rec = plain_case b text e (rec h)
other_case b text false e h rec = absurd (false_true h)

abbrev pub Rest : List ℕ → Type 0
Rest text = Due 0 text → Chars text

-- the second of two digits
second_case : (b high low : ℕ) (text : List ℕ) (k : Bool) → is_ascii_hexdigit low ≡ k → b ≡ 37
    → is_ascii_hexdigit high ≡ true → goes_on text (cond k (Some 0) None) ≡ true → Rest text
    → Chars (b ∷ high ∷ low ∷ text)
second_case b high low text true l e h a rec = encoded_case b high low text e h l (rec a)
second_case b high low text false l e h a rec = absurd (false_true a)

-- the first of them
digits_case : (b high low : ℕ) (text : List ℕ) (k : Bool) → is_ascii_hexdigit high ≡ k → b ≡ 37
    → goes_on (low ∷ text) (cond k (Some 1) None) ≡ true → Rest text → Chars (b ∷ high ∷ low ∷ text)
unfolding are_value_chars
digits_case b high low text true h e a rec = second_case b high low text (is_ascii_hexdigit low) refl e h a rec
digits_case b high low text false h e a rec = absurd (false_true a)

-- one digit where two are due
lone_digit : (k : Bool) → goes_on [] (cond k (Some 1) None) ≡ true → ⊥
unfolding are_value_chars
lone_digit true h = false_true h
lone_digit false h = false_true h

first_case : (b : ℕ) (text : List ℕ) (k : Bool) → (b == 37) ≡ k
    → goes_on text (cond k (Some 2) (cond (is_attr_char b) (Some 0) None)) ≡ true → Rest text
    → (b ≡ 37 → Due 2 text → Chars (b ∷ text)) → Chars (b ∷ text)
first_case b text true e h rec digits = digits (eqb-true b 37 e) h
first_case b text false e h rec digits = other_case b text (is_attr_char b) refl h rec

none : Chars []
none = record { chars = []; are = record { valid = refl; written = refl } }

chars_of : (text : List ℕ) → Due 0 text → Chars text
unfolding are_value_chars
chars_of [] h = none
chars_of (b ∷ []) h = first_case b [] (b == 37) refl h (λ d. none) (λ e d. absurd (false_true d))
chars_of (b ∷ c ∷ []) h =
    first_case b (c ∷ []) (b == 37) refl h (chars_of (c ∷ [])) (λ e d. absurd (lone_digit (is_ascii_hexdigit c) d))
chars_of (b ∷ high ∷ low ∷ text) h = first_case b (high ∷ low ∷ text) (b == 37) refl h (chars_of (high ∷ low ∷ text))
    (λ e d. digits_case b high low text (is_ascii_hexdigit high) refl e d (chars_of text))

pub value_chars_are_such : ValueCharsAreSuch
value_chars_are_such text h = let r = chars_of text h in (r.chars, r.are)

-- ---- texts that are written

abbrev high_of : ℕ → ℕ
high_of b = digit_glyph true (b / 16 % 16)

abbrev low_of : ℕ → ℕ
low_of b = digit_glyph true (b % 16)

abbrev char_if : ℕ → Bool → ValueChar
char_if b k = cond k (Plain b) (Encoded (high_of b) (low_of b))

abbrev char_for : ℕ → ValueChar
char_for b = char_if b (is_attr_char b)

hex_glyph : (d : ℕ) → d < 16 → is_ascii_hexdigit (digit_glyph true d) ≡ true
hex_glyph d h = grind (arith, nat_tests)

value_glyph : (d : ℕ) → d < 16 → digit_value (digit_glyph true d) ≡ d
value_glyph d h = grind (arith, nat_tests)

char_written : (b : ℕ) (k : Bool) → cond k (b ∷ []) (percent_encode_byte b) ≡ char_text (char_if b k)
unfolding percent_encode_byte
char_written b true = refl
char_written b false = refl

written : (text : List ℕ) → flat_map encoded text ≡ flat_map char_text (map char_for text)
written [] = refl
written (b ∷ text) = ap (λ t. t ++ flat_map encoded text) (char_written b (is_attr_char b))
    ∙ ap (λ t. char_text (char_for b) ++ t) (written text)

valid_char : (b : ℕ) (k : Bool) → is_attr_char b ≡ k → is_value_char (char_if b k) ≡ true
valid_char b true e = e
valid_char b false e = ap (λ x. x && is_ascii_hexdigit (low_of b)) (hex_glyph (b / 16 % 16) (omega arith))
    ∙ hex_glyph (b % 16) (omega arith)

all_valid : (text : List ℕ) → list_all is_value_char (map char_for text) ≡ true
all_valid [] = refl
all_valid (b ∷ text) =
    ap (λ x. x && list_all is_value_char (map char_for text)) (valid_char b (is_attr_char b) refl) ∙ all_valid text

octet_char : (b : ℕ) → b < 256 → (k : Bool) → char_octet (char_if b k) ≡ b
octet_char b h true = refl
octet_char b h false =
    let high = value_glyph (b / 16 % 16) (omega arith) in
    let low = value_glyph (b % 16) (omega arith) in rw (high, low) (omega arith)

all_octets : (text : List ℕ) → list_all is_byte text ≡ true → map char_octet (map char_for text) ≡ text
all_octets [] h = refl
all_octets (b ∷ text) h =
    let x = and_parts (is_byte b) (list_all is_byte text) h in
    ap (λ o. o ∷ map char_octet (map char_for text)) (octet_char b (ltb-true b 256 x.0) (is_attr_char b))
    ∙ ap (λ t. b ∷ t) (all_octets text x.1)

abbrev sides : List ℕ → ℕ → List ℕ × List ℕ
sides text k = (take k text, drop (k + 1) text)

cut_charset : (chars : List ℕ) → cut apostrophe (codes "UTF-8''" ++ chars) ≡ Some (codes "UTF-8", apostrophe ∷ chars)
cut_charset chars =
    let text = codes "UTF-8''" ++ chars in
    let within : 5 < length text = omega arith in
    ap (λ k. option_map (sides text) (cond k (Some 5) None)) (lt-ltb 5 (length text) within)

cut_language : (chars : List ℕ) → cut apostrophe (apostrophe ∷ chars) ≡ Some ([], chars)
cut_language chars =
    let text : List ℕ = apostrophe ∷ chars in
    let within : 0 < length text = omega arith in
    ap (λ k. option_map (sides text) (cond k (Some 0) None)) (lt-ltb 0 (length text) within)

pub extended_reads_back : ExtendedReadsBack
extended_reads_back text bytes utf8 =
    let chars = flat_map encoded text in
    let parse = value_chars_parse (map char_for text) (all_valid text) in
    let are : are_value_chars 0 chars ≡ true = ap (are_value_chars 0) (written text) ∙ parse.0 in
    let decodes : percent_decode chars ≡ text = ap percent_decode (written text) ∙ parse.1 ∙ all_octets text bytes in
    ap (option_and_then text_after) (cut_charset chars)
    ∙ ap (option_and_then (decoded_in (codes "UTF-8"))) (cut_language chars)
    ∙ ap (λ k. cond k (text_in (codes "UTF-8") (percent_decode chars)) None) are
    ∙ ap utf8_text decodes ∙ ap (λ k. cond k (Some text) None) utf8
