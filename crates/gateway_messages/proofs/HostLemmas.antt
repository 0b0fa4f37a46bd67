-- The tests of Host hold of exactly what its grammar has.
use Rattle.std.proofs.Common.{◌≡◌, ℕ, ◌+◌, ◌<◌, ◌≤◌, Bool, true, false, not, List, [], ◌∷◌, ◌++◌, length, get_or, ◌-◌}
use Rattle.std.proofs.Common.{take, take_all, drop, Option, Some, None, Result, Ok, Err, refl, sym, ◌∙◌, ap, ap₂, subst}
use Rattle.std.proofs.Common.{arith, inl, inr, codes, cond, decimal, suc, append_assoc, append-nil}
use Rattle.std.proofs.Math.Seq.{drop-append-add, drop-append_seam, drop-cons, take-append_seam}
use Rattle.std.proofs.{NetLemmas.Ipv6.{EndsGroups-nil, read_ipv6_complete, read_ipv6_sound}, lemmas.Bool.and_from}
use Rattle.std.proofs.lemmas.Bool.{and_left, and_parts, cases_Bool, eqb-true, false≢true, or_cases, or_left, or_right}
use Rattle.std.proofs.lemmas.{Bool.Decides.nat_tests, Fmt.decimal_is_IsNumeral, List.take-append-drop}
use Rattle.std.{proofs.lemmas.List.{Folds.length-prefix_len, Sums.prefix_len_stops}, specs.Prelude.{◌==◌, ◌||◌, ◌&&◌}}
use Rattle.std.specs.{Prelude.{◌↔◌, is_ok, is_some, nat_lt}, Char.{is_ascii_digit, is_ascii_hexdigit}}
use Rattle.std.specs.Net.{Reader.{read_ipv6, whole_value}, Grammar.{IsColonHex, IsDotted, IsGroupsAfter, IsIpv6Text}}
use Rattle.std.specs.{Net.Grammar.Parses, Str.Parse.AllDigits, declared.net.ipv6_addr.Ipv6Addr.Ipv6Addr, List.concat}
use Rattle.{std.specs.List.{list_all, prefix_len}, headers.specs.Lines.Line}
use Rattle.gateway_messages.specs.HostTests.{begins_encoded, begins_part, is_address, is_dotted_address}
use Rattle.gateway_messages.specs.HostTests.{is_future_address, is_host, is_ipv6, is_literal_host, is_named_host}
use Rattle.gateway_messages.specs.HostTests.{is_port, is_reg_name, is_versioned, literal_len, name_len, version_len}
use Rattle.gateway_messages.specs.Hosts.{HasHost, IsAddress, IsFutureAddress, IsHost, IsRegName, IsUriHost, has_digits}
use Rattle.gateway_messages.specs.Hosts.{is_address_byte, is_encoded, is_name_byte, is_name_part, port_text}
use Rattle.gateway_messages.specs.{Requests.has_host, declared.protocol.Protocol.Protocol}

-- ---- the bytes before the first that fails a test

all_both : (p : ℕ → Bool) (xs ys : List ℕ) → list_all p xs ≡ true → list_all p ys ≡ true → list_all p (xs ++ ys) ≡ true
all_both p [] ys a b = b
all_both p (x ∷ xs) ys a b =
    grind (arith, and_parts, and_from, all_both p xs ys (and_parts (p x) (list_all p xs) a).1 b)

all_prefix : (p : ℕ → Bool) (xs ys : List ℕ) → list_all p xs ≡ true → prefix_len p ys ≡ 0
    → prefix_len p (xs ++ ys) ≡ length xs
all_prefix p [] ys a none = none
all_prefix p (x ∷ xs) ys a none =
    grind (arith, and_parts, all_prefix p xs ys (and_parts (p x) (list_all p xs) a).1 none)

take_more : (n x : ℕ) (s : List ℕ) → take (1 + n) (x ∷ s) ≡ x ∷ take n s
take_more n x s = let one : 1 + n ≡ suc n = omega arith in ap (λ (k : ℕ). take k (x ∷ s)) one

prefix_all : (p : ℕ → Bool) (s : List ℕ) → list_all p (take (prefix_len p s) s) ≡ true
prefix_all p [] = refl
prefix_all p (x ∷ s) = by (prefix_all p s) (p x) refl
  where
    by : list_all p (take (prefix_len p s) s) ≡ true → (b : Bool) → p x ≡ b
        → list_all p (take (cond b (1 + prefix_len p s) 0) (x ∷ s)) ≡ true
    by below true t = ap (list_all p) (take_more _ x s) ∙ and_from (p x) (list_all p (take (prefix_len p s) s)) t below
    by below false f = refl

weaker : (p q : ℕ → Bool) → ((b : ℕ) → p b ≡ true → q b ≡ true) → (s : List ℕ) → list_all p s ≡ true
    → list_all q s ≡ true
weaker p q implies [] h = refl
weaker p q implies (b ∷ s) h =
    grind (arith, and_parts, and_from, weaker p q implies s (and_parts (p b) (list_all p s) h).1)

-- ---- bytes

outside_bracket : ℕ → Bool
outside_bracket b = not (b == 93)

before_colon : ℕ → Bool
before_colon b = not (b == 58)

hex_is_name : (b : ℕ) → is_ascii_hexdigit b ≡ true → is_name_byte b ≡ true
hex_is_name b h = grind (arith, nat_tests)

name_before_colon : (b : ℕ) → is_name_byte b ≡ true → before_colon b ≡ true
unfolding before_colon
name_before_colon b h = grind (arith, nat_tests)

name_is_no_bracket : (b : ℕ) → is_name_byte b ≡ true → (b == 91) ≡ false
name_is_no_bracket b h = grind (arith, nat_tests)

hex_outside : (b : ℕ) → is_ascii_hexdigit b ≡ true → outside_bracket b ≡ true
unfolding outside_bracket
hex_outside b h = grind (arith, nat_tests)

address_outside : (b : ℕ) → is_address_byte b ≡ true → outside_bracket b ≡ true
unfolding outside_bracket
address_outside b h = grind (arith, nat_tests)

letter_outside : (b : ℕ) → (b == 118 || b == 86) ≡ true → outside_bracket b ≡ true
unfolding outside_bracket
letter_outside b h = grind (arith, nat_tests)

-- ---- registered names

pub name_of_test : (s : Line) → is_reg_name s ≡ true → IsRegName s
unfolding is_reg_name
name_of_test [] h = record { parts = []; valid = refl; spelled = refl }
name_of_test (b ∷ []) h =
    let here = and_parts (is_name_byte b || false) true h in
    elim (or_cases (is_name_byte b) false here.0) [
      | inl t ↦ record { parts = (b ∷ []) ∷ []; valid = and_from (is_name_byte b) true t refl; spelled = refl }
      | inr f ↦ absurd (false≢true f)
    ]
name_of_test (b ∷ c ∷ []) h =
    let here = and_parts (is_name_byte b || false) (is_reg_name (c ∷ [])) h in
    let later = name_of_test (c ∷ []) here.1 in
    elim (or_cases (is_name_byte b) false here.0) [
      | inl t ↦ record {
        parts = (b ∷ []) ∷ later.parts;
        valid = and_from (is_name_byte b) (list_all is_name_part later.parts) t later.valid;
        spelled = ap (λ (s : Line). b ∷ s) later.spelled;
      }
      | inr f ↦ absurd (false≢true f)
    ]
name_of_test (b ∷ c ∷ d ∷ s) h =
    let here = and_parts (is_name_byte b || is_encoded b c d) (is_reg_name (c ∷ d ∷ s)) h in
    elim (or_cases (is_name_byte b) (is_encoded b c d) here.0) [
      | inl t ↦
          let later = name_of_test (c ∷ d ∷ s) here.1 in
          record {
            parts = (b ∷ []) ∷ later.parts;
            valid = and_from (is_name_byte b) (list_all is_name_part later.parts) t later.valid;
            spelled = ap (λ (s : Line). b ∷ s) later.spelled;
          }
      | inr t ↦
          let second = and_parts (is_name_byte c || begins_encoded (c ∷ d ∷ s)) (is_reg_name (d ∷ s)) here.1 in
          let third = and_parts (is_name_byte d || begins_encoded (d ∷ s)) (is_reg_name s) second.1 in
          let later = name_of_test s third.1 in
          record {
            parts = (b ∷ c ∷ d ∷ []) ∷ later.parts;
            valid = and_from (is_encoded b c d) (list_all is_name_part later.parts) t later.valid;
            spelled = ap (λ (s : Line). b ∷ c ∷ d ∷ s) later.spelled;
          }
    ]

pub test_of_parts : (parts : List Line) → list_all is_name_part parts ≡ true → is_reg_name (concat parts) ≡ true
unfolding is_reg_name
test_of_parts [] h = refl
test_of_parts ([] ∷ parts) h = absurd (false≢true h)
test_of_parts ((b ∷ []) ∷ parts) h = grind (
  arith,
  and_parts,
  and_from,
  concat,
  or_left,
  test_of_parts parts (and_parts (is_name_byte b) (list_all is_name_part parts) h).1,
)
test_of_parts ((b ∷ c ∷ []) ∷ parts) h = absurd (false≢true h)
test_of_parts ((b ∷ c ∷ d ∷ []) ∷ parts) h = grind (
  arith,
  and_parts,
  is_ascii_hexdigit,
  and_from,
  concat,
  or_right,
  or_left,
  hex_is_name,
  test_of_parts parts (and_parts (is_encoded b c d) (list_all is_name_part parts) h).1,
)
test_of_parts ((b ∷ c ∷ d ∷ e ∷ s) ∷ parts) h = absurd (false≢true h)

test_of_name : (s : Line) → IsRegName s → is_reg_name s ≡ true
test_of_name s n = ap is_reg_name n.spelled ∙ test_of_parts n.parts n.valid

plain_name : (s : Line) → list_all is_name_byte s ≡ true → is_reg_name s ≡ true
unfolding is_reg_name
plain_name [] h = refl
plain_name (b ∷ s) h = let here = and_parts (is_name_byte b) (list_all is_name_byte s) h in
    and_from (is_name_byte b || begins_encoded (b ∷ s)) (is_reg_name s) (or_left _ _ here.0) (plain_name s here.1)

encoded_percent : (b : ℕ) (s : Line) → begins_encoded (b ∷ s) ≡ true → b ≡ 37
encoded_percent b [] h = absurd (false≢true h)
encoded_percent b (c ∷ []) h = absurd (false≢true h)
encoded_percent b (c ∷ d ∷ s) h = eqb-true b 37 (and_parts (b == 37) (is_ascii_hexdigit c && is_ascii_hexdigit d) h).0

-- the loop over the bytes of a registered name
pub name_stops : (r : Line) → 1 ≤ length r → begins_part r ≡ false → is_reg_name r ≡ false
unfolding is_reg_name
name_stops [] some f = absurd (omega (arith, some))
name_stops (b ∷ s) some f = and_left (begins_part (b ∷ s)) (is_reg_name s) f

pub name_goes_on : (r : Line) → 1 ≤ length r → begins_part r ≡ true
    → is_reg_name r ≡ is_reg_name (take (length r - 1) (drop 1 r))
unfolding is_reg_name
name_goes_on [] some t = absurd (omega (arith, some))
name_goes_on (b ∷ s) some t = grind (arith, take_all)

pub name_ends : (r : Line) → length r < 1 → is_reg_name r ≡ true
unfolding is_reg_name
name_ends [] none = refl
name_ends (b ∷ s) none = absurd (omega (arith, none))

-- a registered name has no colon, and begins with no bracket
name_has_no_colon : (s : Line) → is_reg_name s ≡ true → list_all before_colon s ≡ true
unfolding is_reg_name
name_has_no_colon [] h = refl
name_has_no_colon (b ∷ s) h =
    let here = and_parts (is_name_byte b || begins_encoded (b ∷ s)) (is_reg_name s) h in
    let first : before_colon b ≡ true = elim (or_cases (is_name_byte b) (begins_encoded (b ∷ s)) here.0) [
      | inl t ↦ name_before_colon b t
      | inr t ↦ let percent = encoded_percent b s t in rw percent (unfold before_colon in refl)
    ] in
    and_from (before_colon b) (list_all before_colon s) first (name_has_no_colon s here.1)

name_begins : (b : ℕ) (s : Line) → is_reg_name (b ∷ s) ≡ true → (b == 91) ≡ false
unfolding is_reg_name
name_begins b s h = grind (arith, and_parts, or_cases, name_is_no_bracket, encoded_percent)

-- ---- IPv4 addresses

is_digit_or_dot : ℕ → Bool
is_digit_or_dot b = is_ascii_digit b || b == 46

digit_or_dot_is_name : (b : ℕ) → is_digit_or_dot b ≡ true → is_name_byte b ≡ true
unfolding is_digit_or_dot
digit_or_dot_is_name b h = grind (arith, nat_tests)

digits_of : (s : Line) → AllDigits 10 s → list_all is_digit_or_dot s ≡ true
unfolding is_digit_or_dot
digits_of [] h = refl
digits_of (b ∷ s) h = grind (arith, is_ascii_digit, nat_tests, and_from, is_digit_or_dot, digits_of s h.1)

octet : (n : ℕ) → n < 256 → list_all is_digit_or_dot (decimal n) ≡ true
octet n fits = digits_of (decimal n) (decimal_is_IsNumeral n (omega (arith, fits))).0.1

dot : list_all is_digit_or_dot (codes ".") ≡ true
dot = unfold is_digit_or_dot in refl

then_octet : (s : Line) (n : ℕ) → n < 256 → list_all is_digit_or_dot s ≡ true
    → list_all is_digit_or_dot (s ++ codes "." ++ decimal n) ≡ true
then_octet s n fits before = all_both is_digit_or_dot _ _ (all_both is_digit_or_dot s _ before dot) (octet n fits)

dotted_bytes : (text octets : Line) → IsDotted text octets → list_all is_digit_or_dot text ≡ true
dotted_bytes text octets h = grind (arith, is_digit_or_dot, then_octet, octet)

dotted_is_name : (text octets : Line) → IsDotted text octets → is_reg_name text ≡ true
dotted_is_name text octets h =
    plain_name text (weaker is_digit_or_dot is_name_byte digit_or_dot_is_name text (dotted_bytes text octets h))

-- ---- addresses between brackets

name_outside : (b : ℕ) → is_name_byte b ≡ true → outside_bracket b ≡ true
unfolding outside_bracket
name_outside b h = grind (arith, nat_tests)

dotted_outside : (text octets : Line) → IsDotted text octets → list_all outside_bracket text ≡ true
dotted_outside text octets h =
    weaker is_digit_or_dot outside_bracket (λ b d. name_outside b (digit_or_dot_is_name b d)) text (dotted_bytes _ _ h)

group_outside : (s : Line) → AllDigits 16 s → list_all outside_bracket s ≡ true
unfolding outside_bracket
group_outside [] h = refl
group_outside (b ∷ s) h = grind (arith, nat_tests, and_from, outside_bracket, group_outside s h.1)

groups_outside : (ipv4 : Bool) (lead text segments : List ℕ) → list_all outside_bracket lead ≡ true
    → IsGroupsAfter ipv4 lead text segments → list_all outside_bracket text ≡ true
groups_outside ipv4 lead text [] l h = ap (list_all outside_bracket) h
groups_outside ipv4 lead text (segment ∷ segments) l (inl h) =
    let (group, rest, split, is_group, later) = h in
    let below = groups_outside ipv4 (codes ":") rest segments (unfold outside_bracket in refl) later in
    ap (list_all outside_bracket) split ∙ all_both outside_bracket _ _
    (all_both outside_bracket _ _ l (group_outside _ is_group.0.0.1)) below
groups_outside ipv4 lead text (segment ∷ segments) l (inr h) = let (last, octets, is_ipv4, split, dotted, same) = h in
    ap (list_all outside_bracket) split ∙ all_both outside_bracket _ _ l (dotted_outside _ _ dotted)

colon_hex_outside : (text segments : List ℕ) → IsColonHex text segments → list_all outside_bracket text ≡ true
colon_hex_outside text segments (inl h) = groups_outside true [] text segments refl h.0
colon_hex_outside text segments (inr h) =
    ap (list_all outside_bracket) h.spelled ∙ all_both outside_bracket (h.head_text ++ codes "::") h.tail_text
    (all_both outside_bracket h.head_text (codes "::") (groups_outside false [] h.head_text h.head refl h.head_groups)
    (unfold outside_bracket in refl)) (groups_outside true [] h.tail_text h.tail refl h.tail_groups)

future_outside : (text : Line) → IsFutureAddress text → list_all outside_bracket text ≡ true
future_outside text h = grind (
  arith,
  weaker,
  outside_bracket,
  address_outside,
  is_ascii_hexdigit,
  hex_outside,
  all_both,
  and_from,
  letter_outside,
)

address_is_outside : (text : Line) → IsAddress text → list_all outside_bracket text ≡ true
address_is_outside text (inl h) = colon_hex_outside text _ h.1
address_is_outside text (inr h) = future_outside text h

ipv6_test : (text : Line) (address : Ipv6Addr) → IsIpv6Text text address → is_ipv6 text ≡ true
ipv6_test text address h = let read = rw append-nil at (read_ipv6_complete text address.segments [] h EndsGroups-nil) in
    ap (λ r. is_some (whole_value r)) read

whole_read : (r : Option (List ℕ × List ℕ)) → is_some (whole_value r) ≡ true
    → (segments : List ℕ) × (r ≡ Some (segments, []))
whole_read None h = absurd (false≢true h)
whole_read (Some (segments, [])) h = (segments, refl)
whole_read (Some (segments, b ∷ rest)) h = grind (arith, nat_tests, false≢true)

ipv6_of_test : (text : Line) → is_ipv6 text ≡ true → (address : Ipv6Addr) × IsIpv6Text text address
ipv6_of_test text h = let (segments, read) = whole_read (read_ipv6 text) h in
    let (front, split, shown) = read_ipv6_sound text segments [] read in
    let same : text ≡ front = split ∙ append-nil front in
    let address : Ipv6Addr = record { segments = segments } in
    (address, subst (λ (t : Line). IsColonHex t segments) (sym same) shown)

pub ipv6_result : {E : Type 0} (text : Line) (r : Result Ipv6Addr E) → Parses IsIpv6Text text r → is_ok r ≡ is_ipv6 text
ipv6_result text (Ok address) h = sym (ipv6_test text address h)
ipv6_result text (Err e) none = elim (cases_Bool (is_ipv6 text)) [
  | inl t ↦ let found = ipv6_of_test text t in absurd (none found.0 found.1)
  | inr f ↦ sym f
]

not_empty : (s : Line) → 0 < length s → not (length s == 0) ≡ true
not_empty [] h = absurd (omega (arith, h))
not_empty (b ∷ s) h = grind (arith, nat_tests)

some_bytes : (s : Line) → not (length s == 0) ≡ true → 0 < length s
some_bytes [] h = absurd (false≢true h)
some_bytes (b ∷ s) h = omega arith

future_test : (text : Line) → IsFutureAddress text → is_future_address text ≡ true
future_test text h =
    grind (arith, all_prefix, is_ascii_hexdigit, drop-append_seam, and_from, not_empty, nat_lt, nat_tests)

dotted_of_test : (s : Line) → is_dotted_address s ≡ true
    → (address : Line) × (s ≡ 46 ∷ address) × (0 < length address) × (list_all is_address_byte address ≡ true)
dotted_of_test [] h = absurd (false≢true h)
dotted_of_test (b ∷ s) h = grind (arith, and_parts, eqb-true, some_bytes)

taken : (s : Line) → nat_lt 0 (version_len s) ≡ true → 0 < length (take (version_len s) s)
taken s h = grind (arith, nat_tests, length-prefix_len, is_ascii_hexdigit)

future_of_test : (text : Line) → is_future_address text ≡ true → IsFutureAddress text
future_of_test [] h = absurd (false≢true h)
future_of_test (b ∷ s) h =
    let here = and_parts (b == 118 || b == 86) (is_versioned s) h in
    let parts = and_parts (nat_lt 0 (version_len s)) (is_dotted_address (drop (version_len s) s)) here.1 in
    let (address, split, some, bytes) = dotted_of_test _ parts.1 in
    let whole = sym (take-append-drop (version_len s) s) ∙ ap (λ (rest : Line). take (version_len s) s ++ rest) split in
    record {
      letter = b;
      version = take (version_len s) s;
      address = address;
      is_v = here.0;
      has_version = (taken s parts.0, prefix_all is_ascii_hexdigit s);
      has_address = (some, bytes);
      spelled = ap (λ (rest : Line). b ∷ rest) whole;
    }

address_test : (text : Line) → IsAddress text → is_address text ≡ true
address_test text (inl h) = or_left (is_ipv6 text) (is_future_address text) (ipv6_test text h.0 h.1)
address_test text (inr h) = or_right (is_ipv6 text) (is_future_address text) (future_test text h)

address_of_test : (text : Line) → is_address text ≡ true → IsAddress text
address_of_test text h = grind (arith, or_cases, ipv6_of_test, future_of_test)

-- ---- the port

port_test : (port : Option Line) → has_digits port ≡ true → is_port (port_text port) ≡ true
port_test None h = refl
port_test (Some digits) h = h

port_of_test : (s : Line) → is_port s ≡ true → (port : Option Line) × (has_digits port ≡ true) × (s ≡ port_text port)
port_of_test [] h = (None, refl, refl)
port_of_test (b ∷ s) h = let here = and_parts (b == 58) (list_all is_ascii_digit s) h in
    (Some s, here.1, ap (λ (b : ℕ). b ∷ s) (eqb-true b 58 here.0))

ends_name : (port : Option Line) → prefix_len before_colon (port_text port) ≡ 0
ends_name None = refl
ends_name (Some digits) = unfold before_colon in refl

-- ---- the value

named_test : (host : Line) (port : Option Line) → is_reg_name host ≡ true → has_digits port ≡ true
    → is_named_host (host ++ port_text port) ≡ true
unfolding before_colon
named_test host port name digits = grind (
  arith,
  all_prefix,
  before_colon,
  name_has_no_colon,
  ends_name,
  take-append_seam,
  drop-append_seam,
  and_from,
  port_test,
)

name_test : (host : Line) (port : Option Line) → is_reg_name host ≡ true → has_digits port ≡ true
    → is_host (host ++ port_text port) ≡ true
name_test [] None name digits = named_test [] None name digits
name_test [] (Some port) name digits = named_test [] (Some port) name digits
name_test (b ∷ host) port name digits =
    let other = name_begins b host name in rw other (named_test (b ∷ host) port name digits)

literal_test : (inside : Line) (port : Option Line) → IsAddress inside → has_digits port ≡ true
    → is_literal_host (inside ++ (93 ∷ port_text port)) ≡ true
unfolding outside_bracket
literal_test inside port address digits =
    let s : Line = inside ++ (93 ∷ port_text port) in
    let len = all_prefix outside_bracket inside (93 ∷ port_text port) (address_is_outside inside address) refl in
    let front : take (literal_len s) s ≡ inside
    = ap (λ n. take n s) len ∙ take-append_seam inside (93 ∷ port_text port) in
    let back : drop (literal_len s + 1) s ≡ port_text port
    = ap (λ n. drop (n + 1) s) len ∙ drop-append-add inside (93 ∷ port_text port) 1 in
    let closed : nat_lt (literal_len s) (length s) ≡ true = closes (literal_len s) inside (port_text port) len in
    and_from _ _ closed
    (and_from _ _ (ap is_address front ∙ address_test inside address) (ap is_port back ∙ port_test port digits))
  where
    longer : (xs ys : Line) → length xs < length (xs ++ (93 ∷ ys))
    longer [] ys = omega arith
    longer (x ∷ xs) ys = let below = longer xs ys in omega (arith, below)

    closes : (n : ℕ) (xs ys : Line) → n ≡ length xs → nat_lt n (length (xs ++ (93 ∷ ys))) ≡ true
    closes n xs ys e = let more = longer xs ys in grind (arith, nat_tests)

pub host_test : (line : Line) → IsHost line → is_host line ≡ true
host_test line h = ap is_host h.spelled ∙ by h.host h.port h.is_host h.is_port
  where
    by : (host : Line) (port : Option Line) → IsUriHost host → has_digits port ≡ true
        → is_host (host ++ port_text port) ≡ true
    by host port (inl literal) digits = let shape : host ++ port_text
        port ≡ 91 ∷ (literal.inside ++ (93 ∷ port_text port)) = ap (λ (s : Line). s ++ port_text port) literal.spelled
        ∙ ap (λ (s : Line). 91 ∷ s) (append_assoc literal.inside (93 ∷ []) (port_text port)) in
        ap is_host shape ∙ literal_test literal.inside port literal.address digits
    by host port (inr (inl address)) digits = name_test host port (dotted_is_name host _ address.1) digits
    by host port (inr (inr name)) digits = name_test host port (test_of_name host name) digits

-- a closing bracket ends the address
cut : (s : Line) → nat_lt (literal_len s) (length s) ≡ true
    → s ≡ take (literal_len s) s ++ (93 ∷ drop (literal_len s + 1) s)
unfolding outside_bracket
cut s h = let within : literal_len s < length s = grind (arith, nat_tests) in
    let stops : not (get_or s (literal_len s) 0 == 93) ≡ false = prefix_len_stops outside_bracket s 0 within in
    let bracket : get_or s (literal_len s) 0 ≡ 93 = grind (arith, nat_tests) in
    let next : suc (literal_len s) ≡ literal_len s + 1 = omega arith in
    sym (take-append-drop (literal_len s) s) ∙ ap (λ (rest : Line). take (literal_len s) s ++ rest)
    (drop-cons s (literal_len s) 0 within ∙ ap₂ (λ (b : ℕ) (n : ℕ). b ∷ drop n s) bracket next)

literal_of_test : (s : Line) → is_literal_host s ≡ true → IsHost (91 ∷ s)
literal_of_test s h =
    let here = and_parts (nat_lt (literal_len s) (length s))
    (is_address (take (literal_len s) s) && is_port (drop (literal_len s + 1) s)) h in
    let parts = and_parts (is_address (take (literal_len s) s)) (is_port (drop (literal_len s + 1) s)) here.1 in
    let (port, digits, split) = port_of_test (drop (literal_len s + 1) s) parts.1 in
    let inside : Line = take (literal_len s) s in
    record {
      host = codes "[" ++ (inside ++ codes "]");
      port = port;
      is_host = inl (record { inside = inside; address = address_of_test inside parts.0; spelled = refl });
      is_port = digits;
      spelled = ap (λ (s : Line). 91 ∷ s) (cut s here.0 ∙ ap (λ (rest : Line). inside ++ (93 ∷ rest)) split
          ∙ sym (append_assoc inside (93 ∷ []) (port_text port)));
    }

named_of_test : (s : Line) → is_named_host s ≡ true → IsHost s
named_of_test s h =
    let parts = and_parts (is_reg_name (take (name_len s) s)) (is_port (drop (name_len s) s)) h in
    let (port, digits, split) = port_of_test (drop (name_len s) s) parts.1 in
    record {
      host = take (name_len s) s;
      port = port;
      is_host = inr (inr (name_of_test (take (name_len s) s) parts.0));
      is_port = digits;
      spelled = sym (take-append-drop (name_len s) s) ∙ ap (λ (rest : Line). take (name_len s) s ++ rest) split;
    }

pub host_of_test : (line : Line) → is_host line ≡ true → IsHost line
host_of_test [] h = named_of_test [] h
host_of_test (b ∷ s) h = grind (arith, cases_Bool, eqb-true, literal_of_test, named_of_test)

-- ---- the field

pub has_host_of_test : (protocol : Protocol) (lines : List Line) → has_host protocol lines ≡ true
    → HasHost protocol lines
has_host_of_test Protocol.Http10 [] h = tt
has_host_of_test Protocol.Http11 [] h = absurd (false≢true h)
has_host_of_test Protocol.Http10 (line ∷ []) h = host_of_test line h
has_host_of_test Protocol.Http11 (line ∷ []) h = host_of_test line h
has_host_of_test Protocol.Http10 (line ∷ other ∷ lines) h = absurd (false≢true h)
has_host_of_test Protocol.Http11 (line ∷ other ∷ lines) h = absurd (false≢true h)

pub has_host_test : (protocol : Protocol) (lines : List Line) → HasHost protocol lines → has_host protocol lines ≡ true
has_host_test Protocol.Http10 [] h = refl
has_host_test Protocol.Http11 [] h = absurd h
has_host_test Protocol.Http10 (line ∷ []) h = host_test line h
has_host_test Protocol.Http11 (line ∷ []) h = host_test line h
has_host_test Protocol.Http10 (line ∷ other ∷ lines) h = absurd h
has_host_test Protocol.Http11 (line ∷ other ∷ lines) h = absurd h

-- a request without such a Host is rejected, and no other for its Host
pub rejected_exactly : (protocol : Protocol) (lines : List Line)
    → (has_host protocol lines ≡ false) ↔ (HasHost protocol lines → ⊥)
rejected_exactly protocol lines = grind (arith, false≢true, has_host_test, protocol, cases_Bool, has_host_of_test)
