-- What each reader makes of a request in plain form.
use Rattle.std.proofs.Common.{◌≡◌, ◌⊎◌, inl, inr, ℕ, zero, suc, ◌+◌, ◌-◌, ◌<◌, ◌≤◌, Bool, true, false, cond, not, ◌&&◌}
use Rattle.std.proofs.Common.{◌||◌, eqb, ltb, List, [], ◌∷◌, ◌++◌, map, reverse, length, Option, Some, None, Ok, All}
use Rattle.std.proofs.Common.{codes, sym, refl, ap, ◌∙◌, subst, append_assoc, arith, filter, length-append, flat_map}
use Rattle.std.proofs.Common.{bytes_eq, count_by}
use Rattle.std.specs.List.{AllByRecursion, concat, list_all, list_any, slice_split}
use Rattle.std.specs.Char.{is_ascii_graphic, is_ascii_hexdigit, is_ascii_digit, to_ascii_lowercase, digit_value}
use Rattle.std.specs.Char.{is_ascii_alphanumeric}
use Rattle.std.specs.Str.Parse.{AllDigits, digits_value, without_leading_plus}
use Rattle.std.proofs.lemmas.Bool.{eqb-true, and_from, and_parts, and_right, cases_Bool, ne_eqb, not-true, true≢false}
use Rattle.std.proofs.lemmas.Bool.Decides.{nat_tests}
use Rattle.std.proofs.lemmas.List.{drop_at, reverse-append, reverse-reverse, take_at}
use Rattle.std.proofs.lemmas.List.Elements.{All-head, All-tail, All-weaker}
use Rattle.std.proofs.lemmas.List.Sums.{sum_by-cons}
use Rattle.std.proofs.lemmas.Slice.Eq.{bytes_eq-Decides}
use Rattle.httparse.specs.Grammar.{is_ows, is_token, is_token_byte, is_value_byte, skip_ows, trim_ows}
use Rattle.httparse.proofs.GrammarLemmas.{cons-append}
use Rattle.httparse.proofs.TrimLemmas.{trim_ows_space}
use Rattle.http1.specs.Conservative.{ArePlainFields, IsPlainBody, IsPlainRequest, plain_chunk}
use Rattle.http1.specs.Fields.{Header, content_length, elements, elements_named, frames_plainly, is_framing_field}
use Rattle.http1.specs.Fields.{is_named, is_number, is_plain_chunked, is_plain_number, known_fields, split_commas}
use Rattle.http1.specs.Fields.{transfer_encoding, values_named}
use Rattle.http1.specs.Head.{are_headers, is_header, print_header, print_headers, is_trimmed_value, starts_visible}
use Rattle.http1.specs.Text.{numeral, eq_ignore_case}
use Rattle.http1.proofs.HeadLemmas.{request_text_is}
use Rattle.http1.proofs.NumeralLemmas.{numeral_reads_back}
use Rattle.http1.proofs.TextLemmas.{list_all-append}
use Rattle.std.specs.Prelude.{Err}
use Rattle.http1.specs.declared.framing.MethodKind.{MethodKind}
use Rattle.http1.specs.Framing.{by_fields, for_method, method_kind, request_framing}
use Rattle.http1.specs.declared.framing.Framing.{Framing}
use Rattle.http1.specs.declared.framing.Framing.TheVariants.{Length, NoBody, UntilClose}
use Rattle.http1.specs.declared.framing.FramingError.TheVariants.{InvalidTransferEncoding}
use Rattle.gateway_connection.specs.Readers.{Codings, Number, Repeated, counting, digits_below, extent_by, extent_of}
use Rattle.gateway_connection.specs.Readers.{is_taken_for, length_in, says_chunked, stated, stated_coding}
use Rattle.gateway_connection.specs.Readers.{stated_length, values_for, Nothing, Sized, Chunked, First, Last, Commas}
use Rattle.gateway_connection.specs.Readers.{Same, No, Digits, Leading, Members, Whole, LastMember, Anywhere, Spelling}
use Rattle.gateway_connection.specs.Readers.{content_of, has_no_marks, read_extent, spelled, Dash, DashOrMark}
use Rattle.gateway_connection.specs.Readers.{DashOrUnderscore, DataEnd, Extensions, Extent, Folds, Head, IsSpelled}
use Rattle.gateway_connection.specs.Readers.{LineEnds, Message, Odd, Reader, TakesOrRejects, Verdict, Words, and_reads}
use Rattle.gateway_connection.specs.Readers.{begins_blank, cut_at_colon, each_field, fields_of, front_of, after_front}
use Rattle.gateway_connection.specs.Readers.{head_of, is_empty, is_space, join_fold, joined_folds, line_fields}
use Rattle.gateway_connection.specs.Readers.{may_follow_size, message_of, read_chunk, read_chunks, read_data_end}
use Rattle.gateway_connection.specs.Readers.{read_end, read_line, read_request, read_section, read_start, size_in}
use Rattle.gateway_connection.specs.Readers.{start_of, taken, text_words, three_words, unfolded, without_blanks}
use Rattle.gateway_connection.specs.Readers.{without_controls, Rejects, Takes, Rejected, LeftOut, Kept, NoFolds, Joined}
use Rattle.gateway_connection.specs.Readers.{OwnLines, OneSpace, Spaces, Blanks, SpacesInTarget, LineEnd, Crlf}
use Rattle.gateway_connection.specs.Readers.{TwoBytes, AnyLine, NoText, Text, BlanksAndText, BlankOrText, AnyText}
use Rattle.gateway_connection.specs.Readers.{OnlyBlanks, start}
use Rattle.gateway_connection.specs.ReadersInUse.{go, h11, in_use, old_chunks, old_head, plain_post, post_of}
use Rattle.http1.specs.declared.framing.Framing.TheVariants as Framed
use Rattle.http1.specs.declared.framing.MethodKind.TheVariants as Method
use Rattle.http1.specs.declared.fields.ContentLength.TheVariants as Long
use Rattle.http1.specs.declared.fields.TransferEncoding.TheVariants as Coding

-- ---- bytes

list_all_weaker : (p q : ℕ → Bool) → ((b : ℕ) → p b ≡ true → q b ≡ true) → (xs : List ℕ) → list_all p xs ≡ true
    → list_all q xs ≡ true
list_all_weaker p q f [] all = refl
list_all_weaker p q f (x ∷ xs) all =
    let parts = and_parts (p x) (list_all p xs) all in and_from _ _ (f x parts.0) (list_all_weaker p q f xs parts.1)

list_all-reverse : (p : ℕ → Bool) (xs : List ℕ) → list_all p xs ≡ true → list_all p (reverse xs) ≡ true
list_all-reverse p [] all = refl
list_all-reverse p (x ∷ xs) all =
    let parts = and_parts (p x) (list_all p xs) all in
    ap (list_all p) (reverse-append (x ∷ []) xs) ∙ list_all-append p (reverse xs) (x ∷ [])
    ∙ and_from _ _ (list_all-reverse p xs parts.1) (and_from _ _ parts.0 refl)

filter-all : (p : ℕ → Bool) (xs : List ℕ) → list_all p xs ≡ true → filter p xs ≡ xs
filter-all p [] all = refl
filter-all p (x ∷ xs) all =
    let parts = and_parts (p x) (list_all p xs) all in rw (parts.0, filter-all p xs parts.1) refl

abbrev is_visible : ℕ → Bool
is_visible b = not (is_ows b)

no_line_end : (b : ℕ) → is_value_byte b ≡ true → (eqb b 10 ≡ false) × (eqb b 13 ≡ false)
no_line_end b value = (grind (arith, nat_tests), grind (arith, nat_tests))

tchar : (b : ℕ) → is_token_byte b ≡ true → (is_value_byte b ≡ true) × (is_visible b ≡ true)
unfolding is_token_byte
tchar b is = (grind (arith, nat_tests), grind (arith, nat_tests))

token_is_no_colon : (b : ℕ) → is_token_byte b ≡ true → eqb b 58 ≡ false
unfolding is_token_byte
token_is_no_colon b is = grind (arith, nat_tests)

graphic : (b : ℕ) → is_ascii_graphic b ≡ true → (is_value_byte b ≡ true) × (is_visible b ≡ true)
graphic b is = (grind (arith, nat_tests), grind (arith, nat_tests))

hexadecimal : (b : ℕ) → is_ascii_hexdigit b ≡ true → (is_value_byte b ≡ true) × (is_visible b ≡ true)
hexadecimal b is = (grind (arith, nat_tests), grind (arith, nat_tests))

skip_ows-starts : (xs : List ℕ) → starts_visible xs ≡ true → skip_ows xs ≡ xs
skip_ows-starts [] visible = refl
skip_ows-starts (b ∷ bs) visible = ap (λ t. cond t (skip_ows bs) (b ∷ bs)) (not-true _ visible)

visible_starts : (xs : List ℕ) → list_all is_visible xs ≡ true → starts_visible xs ≡ true
visible_starts [] all = refl
visible_starts (b ∷ bs) all = (and_parts (is_visible b) (list_all is_visible bs) all).0

trim_ows-visible : (xs : List ℕ) → list_all is_visible xs ≡ true → trim_ows xs ≡ xs
unfolding trim_ows
trim_ows-visible xs all = ap (λ t. reverse (skip_ows (reverse t))) (skip_ows-starts xs (visible_starts xs all))
    ∙ ap reverse (skip_ows-starts (reverse xs) (visible_starts (reverse xs) (list_all-reverse is_visible xs all)))
    ∙ reverse-reverse xs

are_headers-all : (hs : List Header) → are_headers hs ≡ true → list_all is_header hs ≡ true
unfolding are_headers
are_headers-all hs valid = valid

-- ---- lines

read_line-crlf : (ends : LineEnds) (line rest : List ℕ) → list_all is_value_byte line ≡ true
    → read_line ends (line ++ (13 ∷ 10 ∷ rest)) ≡ Takes line rest
read_line-crlf ends [] rest text = refl
read_line-crlf ends (b ∷ line) rest text =
    let parts = and_parts (is_value_byte b) (list_all is_value_byte line) text in
    let other = no_line_end b parts.0 in
    rw (other.0, other.1, read_line-crlf ends line rest parts.1) refl

section_step : (ends : LineEnds) (most : ℕ) (bytes line after : List ℕ) (lines : List (List ℕ)) (rest : List ℕ)
    → read_line ends bytes ≡ Takes line after → is_empty line ≡ false → read_section ends most after ≡ Takes lines rest
    → read_section ends (suc most) bytes ≡ Takes (line ∷ lines) rest
section_step ends most bytes line after lines rest reads some later = rw (reads, some, later) refl

abbrev line_of : Header → List ℕ
line_of h = h.0 ++ (58 ∷ 32 ∷ h.1)

record HeaderParts (h : Header) : Type 0 where
  some : is_empty h.0 ≡ false
  token : list_all is_token_byte h.0 ≡ true
  trimmed : trim_ows (32 ∷ h.1) ≡ h.1
  text : list_all is_value_byte (line_of h) ≡ true

header_parts : (h : Header) → is_header h ≡ true → HeaderParts h
header_parts h valid =
    let both = and_parts (is_token h.0) (is_trimmed_value h.1) valid in
    let name = and_parts (ltb 0 (length h.0)) (list_all is_token_byte h.0) both.0 in
    let value = and_parts (starts_visible h.1) _ both.1 in
    let tail = and_parts (starts_visible (reverse h.1)) _ value.1 in
    record {
      some = grind (arith, nat_tests, name.0);
      token = name.1;
      trimmed = trim_ows_space h.1 (skip_ows-starts h.1 value.0) (skip_ows-starts (reverse h.1) tail.0);
      text = list_all-append is_value_byte h.0 (58 ∷ 32 ∷ h.1)
          ∙ and_from _ _ (list_all_weaker is_token_byte is_value_byte (λ b is. (tchar b is).0) h.0 name.1) tail.1;
    }

is_empty-append : (xs ys : List ℕ) → is_empty xs ≡ false → is_empty (xs ++ ys) ≡ false
is_empty-append [] ys some = absurd (cc)
is_empty-append (x ∷ xs) ys some = grind (arith, nat_tests)

read_section-fields : (ends : LineEnds) (hs : List Header) (most : ℕ) (rest : List ℕ) → list_all is_header hs ≡ true
    → length hs < most → read_section ends most (print_headers hs ++ (13 ∷ 10 ∷ rest)) ≡ Takes (map line_of hs) rest
read_section-fields ends hs zero rest valid fits = absurd (omega arith)
read_section-fields ends [] (suc most) rest valid fits = refl
read_section-fields ends (h ∷ hs) (suc most) rest valid fits =
    let both = and_parts (is_header h) (list_all is_header hs) valid in
    let parts = header_parts h both.0 in
    let after = print_headers hs ++ (13 ∷ 10 ∷ rest) in
    let text : (print_header h ++ print_headers hs) ++ (13 ∷ 10 ∷ rest) ≡ line_of h ++ (13 ∷ 10 ∷ after) =
    simp (append_assoc, cons-append) in
    ap (read_section ends (suc most)) text
    ∙ section_step ends most (line_of h ++ (13 ∷ 10 ∷ after)) (line_of h) after (map line_of hs) rest
    (read_line-crlf ends (line_of h) after parts.text)
    (is_empty-append h.0 _ parts.some) (read_section-fields ends hs most rest both.1 (omega arith))

few_fields : (hs : List Header) (rest : List ℕ) → length hs < length (print_headers hs ++ (13 ∷ 10 ∷ rest))
few_fields [] rest = omega arith
few_fields (h ∷ hs) rest = omega (arith, few_fields hs rest, length-append {A = ℕ})

read_start-line : (r : Reader) (most : ℕ) (line rest : List ℕ) → 0 < most → list_all is_value_byte line ≡ true
    → is_empty line ≡ false → read_start r most (line ++ (13 ∷ 10 ∷ rest)) ≡ Takes line rest
read_start-line r zero line rest some text word = absurd (omega arith)
read_start-line r (suc most) line rest some text word =
    rw (read_line-crlf r.head_lines line rest text, and_right r.skips_empty_lines _ word) refl

-- ---- request lines

split_word : (test : ℕ → Bool) (word : List ℕ) (b : ℕ) (rest : List ℕ) → list_all (λ x. not (test x)) word ≡ true
    → test b ≡ true → slice_split test (word ++ (b ∷ rest)) ≡ word ∷ slice_split test rest
split_word test [] b rest none is = rw is refl
split_word test (x ∷ word) b rest none is =
    let parts = and_parts (not (test x)) (list_all (λ x. not (test x)) word) none in
    rw (not-true _ parts.0, split_word test word b rest parts.1 is) refl

split_end : (test : ℕ → Bool) (word : List ℕ) → list_all (λ x. not (test x)) word ≡ true
    → slice_split test word ≡ word ∷ []
split_end test [] none = refl
split_end test (x ∷ word) none =
    let parts = and_parts (not (test x)) (list_all (λ x. not (test x)) word) none in
    rw (not-true _ parts.0, split_end test word parts.1) refl

abbrev version : List ℕ
version = codes "HTTP/1.1"

abbrev start_line : List ℕ → List ℕ → List ℕ
start_line method target = method ++ (32 ∷ (target ++ (32 ∷ version)))

visible_is_no_space : (b : ℕ) → is_visible b ≡ true → not (is_space b) ≡ true
visible_is_no_space b visible = grind (arith, nat_tests)

module _ (method target : List ℕ) (named : list_all is_visible method ≡ true)
    (aimed : list_all is_visible target ≡ true)
    (word : is_empty method ≡ false) (path : is_empty target ≡ false) where
  split_line : (test : ℕ → Bool) → ((b : ℕ) → is_visible b ≡ true → not (test b) ≡ true) → test 32 ≡ true
      → list_all (λ x. not (test x)) version ≡ true
      → slice_split test (start_line method target) ≡ method ∷ target ∷ version ∷ []
  split_line test apart is last =
      split_word test method 32 _ (list_all_weaker is_visible (λ x. not (test x)) apart method named) is
      ∙ ap (λ ws. method ∷ ws) (split_word test target 32 _
      (list_all_weaker is_visible (λ x. not (test x)) apart target aimed) is)
      ∙ ap (λ ws. method ∷ target ∷ ws) (split_end test version last)

  text_words-all : text_words (method ∷ target ∷ version ∷ []) ≡ method ∷ target ∷ version ∷ []
  text_words-all =
      let first : ltb 0 (length method) ≡ true = grind (arith, nat_tests, word) in
      let second : ltb 0 (length target) ≡ true = grind (arith, nat_tests, path) in
      rw (first, second) refl

  start_of-line : (words : Words) → start_of words (start_line method target)
      ≡ Some (start method target version)
  start_of-line OneSpace = rw (split_line is_space visible_is_no_space refl refl) refl
  start_of-line Spaces = rw (split_line is_space visible_is_no_space refl refl) (ap three_words text_words-all)
  start_of-line Blanks = rw (split_line is_ows (λ b visible. visible) refl refl) (ap three_words text_words-all)
  start_of-line SpacesInTarget = rw (split_line is_space visible_is_no_space refl refl) refl

-- ---- field lines

begins : (name rest : List ℕ) → is_empty name ≡ false → list_all is_token_byte name ≡ true
    → begins_blank (name ++ rest) ≡ false
begins [] rest some all = absurd (cc)
begins (b ∷ name) rest some all =
    not-true _ (tchar b (and_parts (is_token_byte b) (list_all is_token_byte name) all).0).1

line_begins : (h : Header) → is_header h ≡ true → begins_blank (line_of h) ≡ false
line_begins h valid = let parts = header_parts h valid in begins h.0 (58 ∷ 32 ∷ h.1) parts.some parts.token

skip_ows-begins : (xs : List ℕ) → begins_blank xs ≡ false → skip_ows xs ≡ xs
skip_ows-begins [] visible = refl
skip_ows-begins (b ∷ bs) visible = ap (λ t. cond t (skip_ows bs) (b ∷ bs)) visible

no_folds : (hs : List Header) → list_all is_header hs ≡ true → list_any begins_blank (map line_of hs) ≡ false
no_folds [] valid = refl
no_folds (h ∷ hs) valid =
    let both = and_parts (is_header h) (list_all is_header hs) valid in
    rw (line_begins h both.0) (no_folds hs both.1)

joined_folds-lines : (hs : List Header) → list_all is_header hs ≡ true → joined_folds (map line_of hs) ≡ map line_of hs
joined_folds-lines [] valid = refl
joined_folds-lines (h ∷ []) valid = refl
joined_folds-lines (h ∷ next ∷ hs) valid =
    let both = and_parts (is_header h) (list_all is_header (next ∷ hs)) valid in
    let later = and_parts (is_header next) (list_all is_header hs) both.1 in
    ap (join_fold (line_of h)) (joined_folds-lines (next ∷ hs) both.1) ∙ rw (line_begins next later.0) refl

skip_ows-lines : (hs : List Header) → list_all is_header hs ≡ true → map skip_ows (map line_of hs) ≡ map line_of hs
skip_ows-lines [] valid = refl
skip_ows-lines (h ∷ hs) valid =
    let both = and_parts (is_header h) (list_all is_header hs) valid in
    λ i. skip_ows-begins (line_of h) (line_begins h both.0) i ∷ skip_ows-lines hs both.1 i

unfolded-lines : (folds : Folds) (hs : List Header) → list_all is_header hs ≡ true
    → unfolded folds (map line_of hs) ≡ Some (map line_of hs)
unfolded-lines NoFolds hs valid = rw (no_folds hs valid) refl
unfolded-lines Joined hs valid = ap (λ ls. Some ls) (joined_folds-lines hs valid)
unfolded-lines OwnLines hs valid = ap (λ ls. Some ls) (skip_ows-lines hs valid)

without_controls-text : (odd : Odd) (line : List ℕ) → list_all is_value_byte line ≡ true
    → without_controls odd line ≡ Some line
without_controls-text Rejected line text = rw text refl
without_controls-text LeftOut line text = ap (λ l. Some l) (filter-all is_value_byte line text)
without_controls-text Kept line text = refl

cut_at_colon-name : (name rest : List ℕ) → list_all is_token_byte name ≡ true
    → cut_at_colon (name ++ (58 ∷ rest)) ≡ Some (name, rest)
cut_at_colon-name [] rest token = refl
cut_at_colon-name (b ∷ name) rest token =
    let parts = and_parts (is_token_byte b) (list_all is_token_byte name) token in
    rw (token_is_no_colon b parts.0, cut_at_colon-name name rest parts.1) refl

without_blanks-name : (odd : Odd) (name : List ℕ) → trim_ows name ≡ name → without_blanks odd name ≡ Some name
without_blanks-name Rejected name trimmed = rw ((bytes_eq-Decides (trim_ows name) name).1 trimmed) refl
without_blanks-name LeftOut name trimmed = ap (λ n. Some n) trimmed
without_blanks-name Kept name trimmed = refl

line_fields-line : (r : Reader) (h : Header) → is_header h ≡ true → line_fields r (line_of h) ≡ Some (h ∷ [])
line_fields-line r h valid =
    let parts = header_parts h valid in
    let token = (and_parts (is_token h.0) (is_trimmed_value h.1) valid).0 in
    let bare = trim_ows-visible h.0
    (list_all_weaker is_token_byte is_visible (λ b is. (tchar b is).1) h.0 parts.token) in
    rw (
      without_controls-text r.controls (line_of h) parts.text,
      cut_at_colon-name h.0 (32 ∷ h.1) parts.token,
      without_blanks-name r.name_blanks h.0 bare,
      token,
      parts.trimmed,
    ) refl

each_field-lines : (r : Reader) (hs : List Header) → list_all is_header hs ≡ true
    → each_field r (map line_of hs) ≡ Some hs
each_field-lines r [] valid = refl
each_field-lines r (h ∷ hs) valid =
    let both = and_parts (is_header h) (list_all is_header hs) valid in
    rw (line_fields-line r h both.0, each_field-lines r hs both.1) refl

fields_of-lines : (r : Reader) (hs : List Header) → list_all is_header hs ≡ true
    → fields_of r (map line_of hs) ≡ Some hs
fields_of-lines r hs valid = rw (unfolded-lines r.folds hs valid) (each_field-lines r hs valid)

-- ---- framing

abbrev length_name : List ℕ
length_name = codes "content-length"

abbrev coding_name : List ℕ
coding_name = codes "transfer-encoding"

-- the values of the two fields: neither, one length, or `chunked`
abbrev AreFew : List (List ℕ) → List (List ℕ) → Type 0
AreFew lengths codings =
    ((lengths ≡ []) × (codings ≡ []))
    ⊎ (((value : List ℕ) × (lengths ≡ value ∷ []) × (codings ≡ []) × (is_plain_number value ≡ true))
    ⊎ ((lengths ≡ []) × (codings ≡ codes "chunked" ∷ [])))

two_names : (h : Header) → is_named length_name h ≡ true → is_named coding_name h ≡ true → ⊥
unfolding eq_ignore_case
two_names h length coding =
    let low = map to_ascii_lowercase h.0 in
    let one = (bytes_eq-Decides low length_name).0 length in
    let other = (bytes_eq-Decides low coding_name).0 coding in
    true≢false (sym ((bytes_eq-Decides length_name coding_name).1 (sym one ∙ other)))

none_left : (n : ℕ) (l c : Bool) (value : List ℕ) (ls cs : List (List ℕ)) → cond (l || c) 1 0 + n ≤ 0
    → (n ≤ 0 → (ls ≡ []) × (cs ≡ [])) → (cond l (value ∷ []) [] ++ ls ≡ []) × (cond c (value ∷ []) [] ++ cs ≡ [])
none_left n true c value ls cs few later = absurd (omega arith)
none_left n false true value ls cs few later = absurd (omega arith)
none_left n false false value ls cs few later = later (omega arith)

few_left : (n : ℕ) (l c : Bool) (value : List ℕ) (ls cs : List (List ℕ)) → cond (l || c) 1 0 + n ≤ 1
    → (l ≡ true → c ≡ true → ⊥) → cond l (is_plain_number value) (cond c (is_plain_chunked value) true) ≡ true
    → (n ≤ 0 → (ls ≡ []) × (cs ≡ [])) → (n ≤ 1 → AreFew ls cs)
    → AreFew (cond l (value ∷ []) [] ++ ls) (cond c (value ∷ []) [] ++ cs)
few_left n true true value ls cs few apart plain none later = absurd (apart refl refl)
few_left n true false value ls cs few apart plain none later =
    let rest = none (omega arith) in inr (inl (value, ap (λ l. value ∷ l) rest.0, rest.1, plain))
few_left n false true value ls cs few apart plain none later =
    let rest = none (omega arith) in
    inr (inr (rest.0, λ i. (bytes_eq-Decides value (codes "chunked")).0 plain i ∷ rest.1 i))
few_left n false false value ls cs few apart plain none later = later (omega arith)

none_frame : (hs : List Header) → count_by is_framing_field hs ≤ 0
    → (values_named length_name hs ≡ []) × (values_named coding_name hs ≡ [])
none_frame [] none = (refl, refl)
none_frame (h ∷ hs) none =
    let sum = sum_by-cons (λ (x : Header). cond (is_framing_field x) 1 0) h hs in
    none_left (count_by is_framing_field hs) (is_named length_name h) (is_named coding_name h) h.1 _ _ (omega arith)
    (none_frame hs)

few_frame : (hs : List Header) → count_by is_framing_field hs ≤ 1 → list_all frames_plainly hs ≡ true
    → AreFew (values_named length_name hs) (values_named coding_name hs)
few_frame [] few plain = inl (refl, refl)
few_frame (h ∷ hs) few plain =
    let sum = sum_by-cons (λ (x : Header). cond (is_framing_field x) 1 0) h hs in
    let both = and_parts (frames_plainly h) (list_all frames_plainly hs) plain in
    few_left (count_by is_framing_field hs) (is_named length_name h) (is_named coding_name h) h.1 _ _ (omega arith)
    (two_names h) both.0 (none_frame hs) (λ later. few_frame hs later both.1)

-- the fields that a reader takes for a name
values_step : (t : Bool) (h : Header) (hs : List Header) (vs : List (List ℕ)) → map (λ (f : Header). f.1) hs ≡ vs
    → map (λ (f : Header). f.1) (cond t (h ∷ hs) hs) ≡ cond t (h.1 ∷ []) [] ++ vs
values_step true h hs vs same = ap (λ l. h.1 ∷ l) same
values_step false h hs vs same = same

values_for-spelled : (r : Reader) (name : List ℕ) (hs : List Header)
    → All (λ h. is_taken_for r name h ≡ is_named name h) hs → values_for r name hs ≡ values_named name hs
values_for-spelled r name [] spelled = refl
values_for-spelled r name (h ∷ hs) spelled =
    rw (All-head (λ (x : Header). is_taken_for r name x ≡ is_named name x) h hs spelled)
    (values_step (is_named name h) h (filter (is_taken_for r name) hs) (values_named name hs)
    (values_for-spelled r name hs (All-tail (λ (x : Header). is_taken_for r name x ≡ is_named name x) h hs spelled)))

-- what `http1` makes of them
elements_step : (t : Bool) (value : List ℕ) (es : List (List ℕ)) (vs : List (List ℕ)) → es ≡ flat_map elements vs
    → cond t (elements value) [] ++ es ≡ flat_map elements (cond t (value ∷ []) [] ++ vs)
elements_step true value es vs same = ap (λ l. elements value ++ l) same
elements_step false value es vs same = same

elements_named-values : (name : List ℕ) (hs : List Header)
    → elements_named name hs ≡ flat_map elements (values_named name hs)
elements_named-values name [] = refl
elements_named-values name (h ∷ hs) = elements_step (is_named name h) h.1 _ _ (elements_named-values name hs)

framing_by : (kind : MethodKind) (hs : List Header) (ls cs : List (List ℕ)) → values_named length_name hs ≡ ls
    → values_named coding_name hs ≡ cs → request_framing kind 1 (known_fields hs)
    ≡ for_method kind (by_fields 1 NoBody (Err InvalidTransferEncoding)
    (transfer_encoding (flat_map elements cs)) (content_length ls))
unfolding known_fields
framing_by kind hs ls cs lengths codings =
    rw (elements_named-values coding_name hs, lengths, codings) refl

chunked_coding : transfer_encoding (flat_map elements (codes "chunked" ∷ [])) ≡ Coding.Chunked
unfolding elements trim_ows eq_ignore_case
chunked_coding = refl

no_body : (kind : MethodKind) (framing : Framing) → for_method kind (Ok NoBody) ≡ Ok framing → framing ≡ NoBody
no_body Method.Head framing is = cc
no_body Method.Connect framing is = cc
no_body Method.Other framing is = cc

sized_body : (kind : MethodKind) (len : ℕ) (framing : Framing) → for_method kind (Ok (Length len)) ≡ Ok framing
    → framing ≡ Length len
sized_body Method.Head len framing is = cc
sized_body Method.Connect len framing is = elim (cases_Bool (eqb len 0)) [
  | inl none ↦ let same = rw none at is in cc
  | inr other ↦ let same = rw other at is in absurd (cc)
]
sized_body Method.Other len framing is = cc

chunked_body : (kind : MethodKind) (framing : Framing) → for_method kind (Ok Framed.Chunked) ≡ Ok framing
    → framing ≡ Framed.Chunked
chunked_body Method.Head framing is = cc
chunked_body Method.Connect framing is = absurd (cc)
chunked_body Method.Other framing is = cc

-- how far the content goes to a reader
abbrev Goes : Framing → Option Extent → Type 0
Goes NoBody extent = extent ≡ Some (Sized 0)
Goes (Length len) extent = (extent ≡ Some (Sized len)) ⊎ (extent ≡ None)
Goes Framed.Chunked extent = extent ≡ Some Chunked
Goes UntilClose extent = ⊥

counting-one : (repeated : Repeated) (value : List ℕ) → counting repeated value [] ≡ Some value
counting-one First value = refl
counting-one Last value = refl
counting-one Commas value = refl
counting-one Same value = refl
counting-one No value = refl

front_of-all : (test : ℕ → Bool) (xs : List ℕ) → list_all test xs ≡ true → front_of test xs ≡ xs
front_of-all test [] all = refl
front_of-all test (x ∷ xs) all =
    let parts = and_parts (test x) (list_all test xs) all in rw (parts.0, front_of-all test xs parts.1) refl

after_front-all : (test : ℕ → Bool) (xs : List ℕ) → list_all test xs ≡ true → after_front test xs ≡ []
after_front-all test [] all = refl
after_front-all test (x ∷ xs) all =
    let parts = and_parts (test x) (list_all test xs) all in rw (parts.0, after_front-all test xs parts.1) refl

digit : (b : ℕ) → is_ascii_digit b ≡ true → (is_visible b ≡ true) × (eqb b 43 ≡ false) × (eqb b 44 ≡ false)
digit b is = (grind (arith, nat_tests), grind (arith, nat_tests), grind (arith, nat_tests))

no_plus : (xs : List ℕ) → list_all is_ascii_digit xs ≡ true → without_leading_plus xs ≡ xs
no_plus [] all = refl
no_plus (b ∷ bs) all =
    rw (digit b (and_parts (is_ascii_digit b) (list_all is_ascii_digit bs) all).0).1 refl

split_commas-digits : (xs : List ℕ) → list_all is_ascii_digit xs ≡ true → split_commas xs ≡ xs ∷ []
split_commas-digits [] all = refl
split_commas-digits (b ∷ bs) all =
    let parts = and_parts (is_ascii_digit b) (list_all is_ascii_digit bs) all in
    rw ((digit b parts.0).2, split_commas-digits bs parts.1) refl

elements-digits : (xs : List ℕ) → list_all is_ascii_digit xs ≡ true → elements xs ≡ xs ∷ []
unfolding elements
elements-digits xs all = ap (map trim_ows) (split_commas-digits xs all)
    ∙ ap (λ x. x ∷ []) (trim_ows-visible xs (list_all_weaker is_ascii_digit is_visible (λ b is. (digit b is).0) xs all))

length_in-digits : (number : Number) (limit : ℕ) (value : List ℕ) → list_all is_ascii_digit value ≡ true
    → length_in number limit value ≡ digits_below limit value
length_in-digits Digits limit value all = refl
length_in-digits Leading limit value all =
    let seen = list_all_weaker is_ascii_digit is_visible (λ b is. (digit b is).0) value all in
    ap (digits_below limit) (ap (λ t. front_of is_ascii_digit (without_leading_plus t))
    (skip_ows-starts value (visible_starts value seen)) ∙ ap (front_of is_ascii_digit) (no_plus value all)
    ∙ front_of-all is_ascii_digit value all)
length_in-digits Members limit value all = rw (elements-digits value all) refl

cond_some : {A : Type 0} (t : Bool) (a : A) → (cond t (Some a) None ≡ Some a) ⊎ (cond t (Some a) None ≡ None)
cond_some true a = inl refl
cond_some false a = inr refl

says_chunked-plain : (codings : Codings) → says_chunked codings (codes "chunked") ≡ true
unfolding elements trim_ows eq_ignore_case
says_chunked-plain Whole = refl
says_chunked-plain LastMember = refl
says_chunked-plain Anywhere = refl

abbrev extent_in : Reader → List (List ℕ) → List (List ℕ) → Option Extent
extent_in r lengths codings = extent_by r.both (stated_length r lengths) (stated_coding r codings)

goes_by : (r : Reader) (kind : MethodKind) (framing : Framing) (ls cs : List (List ℕ)) → AreFew ls cs
    → for_method kind (by_fields 1 NoBody (Err InvalidTransferEncoding) (transfer_encoding (flat_map elements cs))
    (content_length ls)) ≡ Ok framing → Goes framing (extent_in r ls cs)
goes_by r kind framing ls cs (inl none) framed =
    rw (none.0, none.1) (rw (no_body kind framing (rw (none.0, none.1) at framed)) refl)
goes_by r kind framing ls cs (inr (inl one)) framed =
    let value = one.0 in
    let number = (and_parts (is_number value) _ one.3).0 in
    let digits = and_parts (ltb 0 (length value)) _ number in
    let all = (and_parts (list_all is_ascii_digit value) _ digits.1).0 in
    let framed : for_method kind (by_fields 1 NoBody (Err InvalidTransferEncoding) Coding.Absent
    (cond (is_number value && true) (Long.Value (digits_value 10 value)) Long.Invalid)) ≡ Ok framing =
    rw (one.1, one.2) at framed in
    let sized : for_method kind (Ok (Length (digits_value 10 value))) ≡ Ok framing = rw number at framed in
    rw (one.1, one.2, sized_body kind (digits_value 10 value) framing sized)
    (rw (counting-one r.lengths value, length_in-digits r.number r.length_limit value all)
    (sized_extent (digits_below r.length_limit value) (cond_some _ (digits_value 10 value))))
  where
    sized_extent : {n : ℕ} (found : Option ℕ) → (found ≡ Some n) ⊎ (found ≡ None)
        → Goes (Length n) (extent_by r.both (stated found) Nothing)
    sized_extent found (inl is) = inl (rw is refl)
    sized_extent found (inr none) = inr (rw none refl)
goes_by r kind framing ls cs (inr (inr one)) framed =
    let coded : for_method kind (by_fields 1 NoBody (Err InvalidTransferEncoding)
    (transfer_encoding (flat_map elements (codes "chunked" ∷ []))) Long.Absent) ≡ Ok framing =
    rw (one.0, one.1) at framed in
    rw (
      one.0,
      one.1,
      chunked_body kind framing (rw chunked_coding at coded),
      counting-one r.coding_lines (codes "chunked"),
      says_chunked-plain r.codings,
    ) refl

goes : (r : Reader) (method target : List ℕ) (hs : List Header) (framing : Framing) → ArePlainFields 1 hs
    → All (IsSpelled r) hs → request_framing (method_kind method) 1 (known_fields hs) ≡ Ok framing
    → Goes framing (extent_of r (record { method = method; target = target; version = version; fields = hs }))
goes r method target hs framing plain spelled framed =
    let lengths = values_for-spelled r length_name hs (All-weaker (IsSpelled r) _ (λ h s. s.length) hs spelled) in
    let codings = values_for-spelled r coding_name hs (All-weaker (IsSpelled r) _ (λ h s. s.coding) hs spelled) in
    rw (and_right (not r.http10_has_codings) false refl, lengths, codings)
    (goes_by r (method_kind method) framing _ _ (few_frame hs plain.few plain.plain)
    (sym (framing_by (method_kind method) hs _ _ refl refl) ∙ framed))

-- ---- content

-- the first request is taken or rejected, and so is what follows it
then_taken : {A B : Type 0} {a : A} {b : B} {middle rest : List ℕ} (verdict : Verdict A) (next : A → List ℕ → Verdict B)
    → TakesOrRejects a middle verdict → TakesOrRejects b rest (next a middle)
    → TakesOrRejects b rest (and_reads verdict next)
then_taken verdict next (inl takes) later = rw takes later
then_taken verdict next (inr rejects) later = inr (rw rejects refl)

taken_unless : {A : Type 0} {a : A} {rest : List ℕ} (t : Bool) (verdict : Verdict A) → TakesOrRejects a rest verdict
    → TakesOrRejects a rest (cond t Rejects verdict)
taken_unless true verdict taken = inr refl
taken_unless false verdict taken = taken

taken_if : {A : Type 0} {a : A} {rest : List ℕ} (t : Bool) (verdict : Verdict A) → TakesOrRejects a rest verdict
    → TakesOrRejects a rest (cond t verdict Rejects)
taken_if true verdict taken = taken
taken_if false verdict taken = inr refl

not_short : (xs ys : List ℕ) (n : ℕ) → length xs ≡ n → ltb (length (xs ++ ys)) n ≡ false
not_short xs ys n is = let sum = length-append xs ys in grind (arith, nat_tests)

hexadecimal_digit : (c : ℕ) → digit_value c < 16 → is_ascii_hexdigit c ≡ true
hexadecimal_digit c small = grind (arith, nat_tests)

hexadecimal_digits : (text : List ℕ) → AllDigits 16 text → list_all is_ascii_hexdigit text ≡ true
hexadecimal_digits [] all = refl
hexadecimal_digits (c ∷ cs) all = and_from _ _ (hexadecimal_digit c all.0) (hexadecimal_digits cs all.1)

nothing_follows : (extensions : Extensions) → may_follow_size extensions [] ≡ true
nothing_follows NoText = refl
nothing_follows OnlyBlanks = refl
nothing_follows Text = refl
nothing_follows BlanksAndText = refl
nothing_follows BlankOrText = refl
nothing_follows AnyText = refl

same_if : {A : Type 0} (t : Bool) (a b : A) → a ≡ b → cond t a b ≡ b
same_if true a b same = same
same_if false a b same = refl

size_in-numeral : (r : Reader) (n : ℕ) → (size_in r (numeral 16 n) ≡ Some n) ⊎ (size_in r (numeral 16 n) ≡ None)
size_in-numeral r n =
    let back = numeral_reads_back 16 n (omega arith) (omega arith) in
    let text = numeral 16 n in
    let all = hexadecimal_digits text back.digits in
    let seen = list_all_weaker is_ascii_hexdigit is_visible (λ b is. (hexadecimal b is).1) text all in
    let bare = same_if r.blanks_before_size (skip_ows text) text (skip_ows-starts text (visible_starts text seen)) in
    rw (
      bare,
      front_of-all is_ascii_hexdigit text all,
      after_front-all is_ascii_hexdigit text all,
      nothing_follows r.extensions,
      back.value,
    ) (cond_some _ n)

data_end-crlf : (end : DataEnd) (ends : LineEnds) (rest : List ℕ)
    → read_data_end end ends (13 ∷ 10 ∷ rest) ≡ Takes tt rest
data_end-crlf LineEnd ends rest = refl
data_end-crlf Crlf ends rest = refl
data_end-crlf TwoBytes ends rest = rw (not_short (13 ∷ 10 ∷ []) rest 2 refl) refl
data_end-crlf AnyLine ends rest = refl

trailers_end : (r : Reader) (trailers : List Header) (rest : List ℕ) → list_all is_header trailers ≡ true
    → TakesOrRejects [] rest (read_end r (print_headers trailers ++ (13 ∷ 10 ∷ rest)))
trailers_end r trailers rest valid = rw (read_section-fields
    r.trailer_lines trailers _ rest valid (few_fields trailers rest)) (taken_if _ (Takes [] rest) (inl refl))

zero_numeral : numeral 16 0 ≡ 48 ∷ []
unfolding numeral
zero_numeral = refl

abbrev chunk_line : ℕ → List ℕ → List ℕ
chunk_line n after = numeral 16 n ++ (13 ∷ 10 ∷ after)

chunk_taken : (r : Reader) (most n : ℕ) (content after rest : List ℕ)
    → TakesOrRejects content rest (read_chunk r (read_chunks r most) (Some n) after)
    → TakesOrRejects content rest (read_chunks r (suc most) (chunk_line n after))
chunk_taken r most n content after rest taken =
    let text = list_all_weaker is_ascii_hexdigit is_value_byte (λ b is. (hexadecimal b is).0) (numeral 16 n)
    (hexadecimal_digits (numeral 16 n) (numeral_reads_back 16 n (omega arith) (omega arith)).digits) in
    rw (read_line-crlf r.chunk_lines (numeral 16 n) after text)
    (by_size (size_in r (numeral 16 n)) (size_in-numeral r n))
  where
    by_size : (size : Option ℕ) → (size ≡ Some n) ⊎ (size ≡ None)
        → TakesOrRejects content rest (read_chunk r (read_chunks r most) size after)
    by_size size (inl is) = rw is taken
    by_size size (inr none) = inr (rw none refl)

data_taken : (r : Reader) (later : List ℕ → Verdict (List ℕ)) (piece content after rest : List ℕ) → 0 < length piece
    → TakesOrRejects content rest (later after)
    → TakesOrRejects (piece ++ content) rest (read_chunk r later (Some (length piece)) (piece ++ (13 ∷ 10 ∷ after)))
data_taken r later piece content after rest some taken =
    let bytes = piece ++ (13 ∷ 10 ∷ after) in
    rw (
      ne_eqb (length piece) 0 (omega arith),
      not_short piece (13 ∷ 10 ∷ after) (length piece) refl,
      drop_at piece (13 ∷ 10 ∷ after) (length piece) refl,
      take_at piece (13 ∷ 10 ∷ after) (length piece) refl,
      data_end-crlf r.data_end r.chunk_lines after,
    )
    (then_taken (later after) (λ data_after left. Takes (piece ++ data_after) left) taken (inl refl))

abbrev last_chunk : List Header → List ℕ → List ℕ
last_chunk trailers rest = 48 ∷ 13 ∷ 10 ∷ (print_headers trailers ++ (13 ∷ 10 ∷ rest))

chunks_taken : (r : Reader) (pieces : List (List ℕ)) (trailers : List Header) (most : ℕ) (rest : List ℕ)
    → AllByRecursion (λ piece. 0 < length piece) pieces → list_all is_header trailers ≡ true → length pieces < most
    → TakesOrRejects (concat pieces) rest
    (read_chunks r most (flat_map plain_chunk pieces ++ last_chunk trailers rest))
chunks_taken r pieces trailers zero rest some valid fits = absurd (omega arith)
chunks_taken r [] trailers (suc most) rest some valid fits = subst
    (λ (digits : List ℕ). TakesOrRejects [] rest (read_chunks r (suc most)
    (digits ++ (13 ∷ 10 ∷ (print_headers trailers ++ (13 ∷ 10 ∷ rest)))))) zero_numeral
    (chunk_taken r most 0 [] (print_headers trailers ++ (13 ∷ 10 ∷ rest)) rest (trailers_end r trailers rest valid))
chunks_taken r (piece ∷ pieces) trailers (suc most) rest some valid fits =
    let after = flat_map plain_chunk pieces ++ last_chunk trailers rest in
    let text : chunk_line (length piece) (piece ++ (13 ∷ 10 ∷ after))
    ≡ (plain_chunk piece ++ flat_map plain_chunk pieces) ++ last_chunk trailers rest =
    simp (append_assoc, cons-append) in
    subst (λ (bytes : List ℕ). TakesOrRejects (piece ++ concat pieces) rest (read_chunks r (suc most) bytes)) text
    (chunk_taken r most (length piece) (piece ++ concat pieces) (piece ++ (13 ∷ 10 ∷ after)) rest
    (data_taken r (read_chunks r most) piece (concat pieces) after rest some.0
    (chunks_taken r pieces trailers most rest some.1 valid (omega arith))))

few_chunks : (pieces : List (List ℕ)) (b : ℕ) (more : List ℕ)
    → length pieces < length (flat_map plain_chunk pieces ++ (b ∷ more))
few_chunks [] b more = omega arith
few_chunks (piece ∷ pieces) b more = omega (arith, few_chunks pieces b more, length-append {A = ℕ})

content_taken : (r : Reader) (framing : Framing) (wire rest : List ℕ) (body : IsPlainBody framing wire)
    (extent : Option Extent) → Goes framing extent
    → TakesOrRejects (content_of framing wire body) rest (read_extent r extent (wire ++ rest))
content_taken r NoBody wire rest body extent is = rw (is, body) (rw (not_short [] rest 0 refl) (inl refl))
content_taken r (Length len) wire rest body extent (inl is) =
    rw is (rw (not_short wire rest len body, take_at wire rest len body, drop_at wire rest len body) (inl refl))
content_taken r (Length len) wire rest body extent (inr none) = inr (rw none refl)
content_taken r Framed.Chunked wire rest body extent is =
    let text : wire ++ rest ≡ flat_map plain_chunk body.pieces ++ last_chunk body.trailers rest =
    ap (λ t. t ++ rest) body.text ∙ simp (append_assoc, cons-append) in
    rw (is, text) (chunks_taken r body.pieces body.trailers _ rest body.not_empty
    (are_headers-all body.trailers body.plain_trailers.valid)
    (few_chunks body.pieces 48 _))
content_taken r UntilClose wire rest body extent is = absurd is

-- ---- requests

request_taken : (r : Reader) (bytes line after : List ℕ) (lines : List (List ℕ)) (left content rest : List ℕ)
    (head : Head) → read_start r (length bytes) bytes ≡ Takes line after
    → read_section r.head_lines (length after) after ≡ Takes lines left → head_of r line lines ≡ Some head
    → TakesOrRejects content rest (read_extent r (extent_of r head) left)
    → TakesOrRejects (record { method = head.method; target = head.target; content = content }) rest
    (read_request r bytes)
unfolding read_request
request_taken r bytes line after lines left content rest head starts section parts taken = rw (starts, section, parts)
    (taken_unless (r.rejects_head (length bytes - length left) head) _
    (then_taken (read_extent r (extent_of r head) left) _ taken
    (taken_unless (r.rejects_content content) _ (inl refl))))

pub plain_request_is_taken : (r : Reader) (text rest : List ℕ) (plain : IsPlainRequest text)
    → All (IsSpelled r) plain.fields → TakesOrRejects (message_of plain) rest (read_request r (text ++ rest))
plain_request_is_taken r text rest plain spelled =
    let method = plain.method in
    let target = plain.target in
    let hs = plain.fields in
    let line = and_parts (is_token method) _ plain.line in
    let name = and_parts (ltb 0 (length method)) (list_all is_token_byte method) line.0 in
    let path = and_parts (ltb 0 (length target)) (list_all is_ascii_graphic target) (and_parts _ _ line.1).0 in
    let valid = are_headers-all hs plain.plain_fields.valid in
    let word : is_empty method ≡ false = grind (arith, nat_tests, name.0) in
    let end : is_empty target ≡ false = grind (arith, nat_tests, path.0) in
    let named = list_all_weaker is_token_byte is_visible (λ b is. (tchar b is).1) method name.1 in
    let aimed = list_all_weaker is_ascii_graphic is_visible (λ b is. (graphic b is).1) target path.1 in
    let first = start_line method target in
    let values : list_all is_value_byte first ≡ true = list_all-append is_value_byte method _
    ∙ and_from _ _ (list_all_weaker is_token_byte is_value_byte (λ b is. (tchar b is).0) method name.1)
    (list_all-append is_value_byte target (32 ∷ version)
    ∙ and_from _ _ (list_all_weaker is_ascii_graphic is_value_byte (λ b is. (graphic b is).0) target path.1) refl) in
    let after = print_headers hs ++ (13 ∷ 10 ∷ (plain.wire ++ rest)) in
    let bytes : first ++ (13 ∷ 10 ∷ after) ≡ text ++ rest =
    sym (ap (λ t. t ++ rest) (plain.parts ∙ ap (λ t. t ++ plain.wire) (sym (request_text_is method target 1 hs)))
    ∙ simp (append_assoc, cons-append)) in
    let head : head_of r first (map line_of hs)
    ≡ Some (record { method = method; target = target; version = version; fields = hs }) =
    rw (start_of-line method target named aimed word end r.words, fields_of-lines r hs valid) refl in
    subst (λ (t : List ℕ). TakesOrRejects (message_of plain) rest (read_request r t)) bytes
    (request_taken r (first ++ (13 ∷ 10 ∷ after)) first after (map line_of hs) (plain.wire ++ rest) _ rest _
    (read_start-line r _ first after (omega (arith, length-append {A = ℕ})) values (is_empty-append method _ word))
    (read_section-fields r.head_lines hs _ (plain.wire ++ rest) valid (few_fields hs (plain.wire ++ rest))) head
    (content_taken r plain.framing plain.wire rest plain.body _
    (goes r method target hs plain.framing plain.plain_fields spelled plain.framed)))

pub two_readers : (one other : Reader) (text rest : List ℕ) (plain : IsPlainRequest text) (a b : Message)
    (after_a after_b : List ℕ) → All (IsSpelled one) plain.fields → All (IsSpelled other) plain.fields
    → read_request one (text ++ rest) ≡ Takes a after_a → read_request other (text ++ rest) ≡ Takes b after_b
    → (a ≡ b) × (after_a ≡ after_b)
two_readers one other text rest plain a b after_a after_b first second takes_a takes_b =
    by_case (plain_request_is_taken one text rest plain first) (plain_request_is_taken other text rest plain second)
  where
    by_case : TakesOrRejects (message_of plain) rest (read_request one (text ++ rest))
        → TakesOrRejects (message_of plain) rest (read_request other (text ++ rest)) → (a ≡ b) × (after_a ≡ after_b)
    by_case (inl x) (inl y) = (cc, cc)
    by_case x (inr y) = absurd (cc)
    by_case (inr x) y = absurd (cc)

-- ---- names

module _ (r : Reader) (h : Header) where
  as_http1 : spelled r.spelling h.0 ≡ map to_ascii_lowercase h.0 → IsSpelled r h
  unfolding eq_ignore_case
  as_http1 same =
      record { length = ap (λ n. bytes_eq n length_name) same; coding = ap (λ n. bytes_eq n coding_name) same }

  pub dash_is_spelled : r.spelling ≡ Dash → IsSpelled r h
  dash_is_spelled is = as_http1 (rw is refl)

  pub no_marks_is_spelled : has_no_marks h.0 ≡ true → IsSpelled r h
  no_marks_is_spelled none = as_http1 (by_spelling r.spelling h.0 none)
    where
      underscore : (b : ℕ) → (is_ascii_alphanumeric b || eqb b 45) ≡ true → (eqb b 95 ≡ false)
      underscore b plain = grind (arith, nat_tests)

      dash : (b : ℕ) → (is_ascii_alphanumeric b || eqb b 45) ≡ true
          → cond (is_ascii_alphanumeric b) (to_ascii_lowercase b) 45 ≡ to_ascii_lowercase b
      dash b plain = grind (arith, nat_tests)

      by_spelling : (spelling : Spelling) (name : List ℕ) → has_no_marks name ≡ true
          → spelled spelling name ≡ map to_ascii_lowercase name
      by_spelling Dash name plain = refl
      by_spelling DashOrUnderscore [] plain = refl
      by_spelling DashOrUnderscore (b ∷ name) plain =
          let parts = and_parts (is_ascii_alphanumeric b || eqb b 45) (has_no_marks name) plain in
          rw (underscore b parts.0, by_spelling DashOrUnderscore name parts.1) refl
      by_spelling DashOrMark [] plain = refl
      by_spelling DashOrMark (b ∷ name) plain =
          let parts = and_parts (is_ascii_alphanumeric b || eqb b 45) (has_no_marks name) plain in
          λ i. dash b parts.0 i ∷ by_spelling DashOrMark name parts.1 i

lower_alphanumeric : (b : ℕ) → is_ascii_alphanumeric (to_ascii_lowercase b) ≡ is_ascii_alphanumeric b
lower_alphanumeric b = grind (arith, nat_tests)

-- a byte of a name, with a dash for each mark
unmarked : ℕ → ℕ
unmarked b = cond (is_ascii_alphanumeric b) b 45

unmarked_byte : (b : ℕ) → (unmarked (to_ascii_lowercase b) ≡ cond (is_ascii_alphanumeric b) (to_ascii_lowercase b) 45)
    × (unmarked (cond (eqb b 95) 45 (to_ascii_lowercase b)) ≡ cond (is_ascii_alphanumeric b) (to_ascii_lowercase b) 45)
    × (unmarked (cond (is_ascii_alphanumeric b) (to_ascii_lowercase b) 45)
    ≡ cond (is_ascii_alphanumeric b) (to_ascii_lowercase b) 45)
unfolding unmarked
unmarked_byte b =
    let low = lower_alphanumeric b in
    let dashed = λ (t : Bool). cond t (to_ascii_lowercase b) 45 in (
      ap dashed low,
      elim (cases_Bool (eqb b 95)) [ inl is ↦ rw (eqb-true b 95 is) refl | inr is ↦ rw is (ap dashed low) ],
      elim (cases_Bool (is_ascii_alphanumeric b)) [ inl is ↦ rw is (ap dashed (low ∙ is)) | inr is ↦ rw is refl ],
    )

unmarked_name : (spelling : Spelling) (name : List ℕ) → map unmarked (spelled spelling name) ≡ spelled DashOrMark name
unmarked_name Dash [] = refl
unmarked_name Dash (b ∷ name) = λ i. (unmarked_byte b).0 i ∷ unmarked_name Dash name i
unmarked_name DashOrUnderscore [] = refl
unmarked_name DashOrUnderscore (b ∷ name) = λ i. (unmarked_byte b).1 i ∷ unmarked_name DashOrUnderscore name i
unmarked_name DashOrMark [] = refl
unmarked_name DashOrMark (b ∷ name) = λ i. (unmarked_byte b).2 i ∷ unmarked_name DashOrMark name i

unlike : (spelling : Spelling) (name known : List ℕ) → map unmarked known ≡ known
    → bytes_eq (spelled DashOrMark name) known ≡ false → bytes_eq (spelled spelling name) known ≡ false
unlike spelling name known fixed other = elim (cases_Bool (bytes_eq (spelled spelling name) known)) [
  | inl is ↦ let same = (bytes_eq-Decides (spelled spelling name) known).0 is in
      let like = sym (unmarked_name spelling name) ∙ ap (map unmarked) same ∙ fixed in
      absurd (true≢false (sym ((bytes_eq-Decides (spelled DashOrMark name) known).1 like) ∙ other))
  | inr is ↦ is
]

pub unlike_is_spelled : (r : Reader) (h : Header) → bytes_eq (spelled DashOrMark h.0) length_name ≡ false
    → bytes_eq (spelled DashOrMark h.0) coding_name ≡ false → IsSpelled r h
unfolding eq_ignore_case unmarked
unlike_is_spelled r h length coding = record {
  length = unlike r.spelling h.0 length_name refl length ∙ sym (unlike Dash h.0 length_name refl length);
  coding = unlike r.spelling h.0 coding_name refl coding ∙ sym (unlike Dash h.0 coding_name refl coding);
}

-- ---- readers in use

pub go_leaves_chunks : read_request go (old_head ++ old_chunks) ≡ Takes (post_of []) old_chunks
unfolding read_request trim_ows is_token_byte eq_ignore_case
go_leaves_chunks = refl

pub h11_takes_chunks : read_request h11 (old_head ++ old_chunks) ≡ Takes (post_of (codes "hello")) []
unfolding read_request trim_ows is_token_byte eq_ignore_case elements
h11_takes_chunks = refl

pub all_take_plain_post : AllByRecursion
    (λ r. read_request r (plain_post ++ plain_post) ≡ Takes (post_of (codes "hello")) plain_post) in_use
unfolding read_request trim_ows is_token_byte eq_ignore_case elements
all_take_plain_post = (refl, (refl, (refl, (refl, (refl, (refl, (refl, tt)))))))
