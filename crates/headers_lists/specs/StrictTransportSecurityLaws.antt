-- Round trip: the encoding of transport security decodes to it.
use Rattle.std.proofs.Common.{◌≡◌, ℕ, ◌^◌, ◌<◌, Bool, true, false, not, ◌==◌, nat_le, cond, List, [], ◌∷◌, ◌++◌, map}
use Rattle.std.{proofs.Common.{filter, Option, Some, None, codes, refl, ◌∙◌, ap, arith}, specs.Prelude.option_map}
use Rattle.std.{specs.Fmt.decimal, specs.Char.is_ascii_digit, specs.Str.all_ascii_digits, specs.List.list_all}
use Rattle.std.{specs.List.{list_any, slice_split, All, count_by}, specs.Option.option_and_then}
use Rattle.std.{proofs.lemmas.Bool.{and_from, and_parts, not-true}, proofs.lemmas.Bool.Decides.nat_tests}
use Rattle.std.{proofs.lemmas.List.append-nil, proofs.lemmas.List.Splits.{slice_split_none, slice_split_at}}
use Rattle.std.{proofs.lemmas.List.Folds.list_all-append, proofs.lemmas.List.Sums.AllPass-from_list_all}
use Rattle.std.{proofs.lemmas.Str.Parse.{numerals_by_value, tells_all_ascii_digits}, proofs.lemmas.Fmt.digits_decimal}
use Rattle.http_header.specs.Token.{is_visible_or_blank}
use Rattle.headers_syntax.{specs.Lines.only_line, specs.HeaderLaws.{HeaderLaws, SameBy, ReadsBy, written_by}}
use Rattle.headers_syntax.{specs.Number.number, specs.Parts.parts, specs.Text.{is_text, trim, without_quotes}}
use Rattle.headers_syntax.{proofs.NumberLemmas.{number-decimal, number-lt}, proofs.PlainLemmas.decimal_plain}
use Rattle.headers_syntax.proofs.PlainLemmas.{trim_piece, unquoted_piece, text_piece}
use Rattle.headers_syntax.proofs.ShapeLemmas.{ReadsBackLine, one_line_laws}
use Rattle.headers_lists.specs.StrictTransportSecurity.{TransportSecurity, names_subdomains, carries_age, age_in}
use Rattle.headers_lists.specs.StrictTransportSecurity.{security_of, read_security, print_security}
use Rattle.headers_lists.specs.StrictTransportSecurityGrammar.{security_grammar}

abbrev pub value : Bool → ℕ → TransportSecurity
value b n = record { include_subdomains = b; max_age = n }

-- the age as a part
abbrev pub age_part : ℕ → List ℕ
age_part n = codes "max-age=" ++ decimal n

-- a byte that is no semicolon
abbrev pub no_cut : ℕ → Bool
no_cut b = not (b == 59)

digits_uncut : (ds : List ℕ) → all_ascii_digits ds ≡ true → list_all no_cut ds ≡ true
digits_uncut [] h = refl
digits_uncut (c ∷ ds) h =
    let p = and_parts (is_ascii_digit c) (all_ascii_digits ds) h in
    and_from _ _ (grind (arith, nat_tests, p.0)) (digits_uncut ds p.1)

module _ (n : ℕ) (fits : n < 2 ^ 64) where
  age_uncut : All (λ b. (b == 59) ≡ false) (age_part n)
  age_uncut k d h =
      let digits = digits_decimal (numerals_by_value _ tells_all_ascii_digits) n fits in
      not-true _ (AllPass-from_list_all no_cut (age_part n) (digits_uncut (decimal n) digits) k d h)

  pub printed_text : (b : Bool) → is_text (print_security (value b n)) ≡ true
  printed_text true =
      list_all-append is_visible_or_blank (age_part n) (codes "; includeSubdomains")
      ∙ and_from _ _ (text_piece (age_part n) (decimal_plain n fits)) refl
  printed_text false = ap is_text (append-nil (age_part n)) ∙ text_piece (age_part n) (decimal_plain n fits)

  trimmed : trim (age_part n) ≡ age_part n
  trimmed = trim_piece (age_part n) (decimal_plain n fits)

  age_read : age_in (age_part n) ≡ Some n
  age_read =
      ap (λ r. number (without_quotes r)) (trim_piece (decimal n) (decimal_plain n fits))
      ∙ ap number (unquoted_piece (decimal n) (decimal_plain n fits)) ∙ number-decimal n fits

  -- the parts of the encoding, and what they are
  printed_says : (b : Bool)
      → security_of (map trim (slice_split (λ b. b == 59) (print_security (value b n)))) ≡ Some (value b n)
  printed_says true =
      ap (λ cut. security_of (map trim cut))
      (slice_split_at (λ b. b == 59) (age_part n) 59 (codes " includeSubdomains") age_uncut refl)
      ∙ ap (λ part. security_of (part ∷ codes "includeSubdomains" ∷ [])) trimmed
      ∙ ap (option_map (value true)) age_read
  printed_says false =
      ap (λ line. security_of (map trim (slice_split (λ b. b == 59) line))) (append-nil (age_part n))
      ∙ ap (λ cut. security_of (map trim cut)) (slice_split_none (λ b. b == 59) (age_part n) age_uncut)
      ∙ ap (λ part. security_of (part ∷ [])) trimmed
      ∙ ap (option_map (value false)) age_read

-- every value survives a round trip
pub built_back : (s : TransportSecurity) → s.max_age < 2 ^ 64 → read_security (print_security s) ≡ Some s
built_back s fits =
    ap (λ t. security_of (cond t (map trim (slice_split (λ b. b == 59) (print_security s))) []))
    (printed_text s.max_age fits s.include_subdomains) ∙ printed_says s.max_age fits s.include_subdomains

-- a decoded age fits
age_fits : (part : Option (List ℕ)) (n : ℕ) → option_and_then age_in part ≡ Some n → n < 2 ^ 64
age_fits None n h = absurd (cc h)
age_fits (Some part) n h = number-lt _ n h

read_fits : (few b : Bool) (age : Option ℕ) (s : TransportSecurity) → ((n : ℕ) → age ≡ Some n → n < 2 ^ 64)
    → cond few (option_map (value b) age) None ≡ Some s → s.max_age < 2 ^ 64
read_fits false b age s fits h = absurd (cc h)
read_fits true b None s fits h = absurd (cc h)
read_fits true b (Some n) s fits h = fits s.max_age (ap (option_map (λ (v : TransportSecurity). v.max_age)) h)

pub security_back : ReadsBackLine read_security print_security
security_back line s h =
    let ps = parts 59 line in
    built_back s (read_fits (nat_le (count_by names_subdomains ps) 1) (list_any names_subdomains ps) _ s
    (age_fits (only_line (filter carries_age ps))) h)

pub security_laws : HeaderLaws (SameBy security_grammar) (ReadsBy security_grammar) (written_by security_grammar)
security_laws = one_line_laws (λ v. v) only_line read_security print_security (λ line. refl) security_back
