-- The text of a node is a value of a field.
use Rattle.std.proofs.Common.{◌≡◌, ℕ, zero, suc, ◌/◌, ◌%◌, ◌^◌, ◌<◌, ◌⊎◌, Bool, true, List, [], ◌∷◌, ◌++◌, drop, get_or}
use Rattle.std.proofs.Common.{IsTrue, Ok, Err, OnOk, Result, arith, bytes_eq, codes, decimal, length, not, refl, subst}
use Rattle.std.proofs.{Common.{sym, take}, lemmas.Bool.{and_parts, cond_both, eqb-true, Decides.nat_tests}}
use Rattle.std.proofs.lemmas.List.Elements.{All-append, All-cons, All-nil, All-weaker}
use Rattle.std.proofs.NetLemmas.Alphabet.{All-hex_groups_text, All-ipv4_text, IsDigitOrDot, IsHexOrColon}
use Rattle.std.{proofs.NetLemmas.Texts.{AllSegments, AllSegments-drop}, specs.{Prelude.{◌&&◌, ◌==◌}, List.list_all}}
use Rattle.std.specs.Net.{Addr.octets_of, Text.{hex_groups_text, ipv4_text, ipv6_text}}
use Rattle.http_header.{specs.{FieldValue.IsFieldValue, Token.is_value_byte}, proofs.TokenLemmas.AllPass-from_test}
use Rattle.gateway_hops.specs.Nodes.{is_obfuscated, is_obfuscated_byte}
use Rattle.headers_syntax.proofs.PlainLemmas.{decimal_plain, is_plain, plain_bounds}

abbrev IsValueByte : ℕ → Type 0
IsValueByte b = IsTrue (is_value_byte b)

digit_valid : (b : ℕ) → IsDigitOrDot b → IsTrue (is_value_byte b)
digit_valid b h = grind (arith, nat_tests, h)

hex_valid : (b : ℕ) → IsHexOrColon b → IsTrue (is_value_byte b)
hex_valid b h = grind (arith, nat_tests, h)

pub ipv4_valid : (octets : List ℕ) → ((k : ℕ) → get_or octets k 0 < 2 ^ 8) → IsFieldValue (ipv4_text octets)
ipv4_valid octets fits = All-weaker IsDigitOrDot IsValueByte digit_valid (ipv4_text octets) (All-ipv4_text octets fits)

octets_fit : (segments : List ℕ) → AllSegments segments → (k : ℕ) → get_or (octets_of segments) k 0 < 2 ^ 8
octets_fit [] fits k = omega arith
octets_fit (s ∷ segments) fits zero = let first = fits 0 in omega (arith, first)
octets_fit (s ∷ segments) fits (suc zero) = omega arith
octets_fit (s ∷ segments) fits (suc (suc k)) = octets_fit segments (λ j. fits (suc j)) k

pub ipv6_valid : (segments : List ℕ) → AllSegments segments → IsFieldValue (ipv6_text segments)
unfolding ipv6_text
ipv6_valid segments fits = cond_both (bytes_eq (take 6 segments) (0 ∷ 0 ∷ 0 ∷ 0 ∷ 0 ∷ 0xffff ∷ []))
    (codes "::ffff:" ++ ipv4_text (octets_of (drop 6 segments))) (hex_groups_text segments) IsFieldValue
    (λ _. All-append IsValueByte (codes "::ffff:") _ (AllPass-from_test is_value_byte (codes "::ffff:") refl)
    (ipv4_valid (octets_of (drop 6 segments)) (octets_fit (drop 6 segments) (AllSegments-drop 6 segments fits))))
    (λ _. All-weaker IsHexOrColon IsValueByte hex_valid (hex_groups_text segments) (All-hex_groups_text segments fits))

plain_valid : (s : List ℕ) → list_all is_plain s ≡ true → IsFieldValue s
plain_valid [] h = All-nil IsValueByte
plain_valid (b ∷ s) h =
    let p = and_parts (is_plain b) (list_all is_plain s) h in
    let bounds = plain_bounds b p.0 in
    let low = bounds.0 in
    let high = bounds.1 in
    let valid : IsTrue (is_value_byte b) = grind (arith, nat_tests, low, high) in
    All-cons IsValueByte b s valid (plain_valid s p.1)

pub decimal_valid : (n : ℕ) → n < 2 ^ 64 → IsFieldValue (decimal n)
decimal_valid n fits = plain_valid (decimal n) (decimal_plain n fits)

pub join_valid : (s t : List ℕ) → IsFieldValue s → IsFieldValue t → IsFieldValue (s ++ t)
join_valid s t = All-append IsValueByte s t

obfuscated_byte_valid : (b : ℕ) → is_obfuscated_byte b ≡ true → IsTrue (is_value_byte b)
obfuscated_byte_valid b h = grind (arith, nat_tests, h)

obfuscated_bytes_valid : (s : List ℕ) → list_all is_obfuscated_byte s ≡ true → IsFieldValue s
obfuscated_bytes_valid [] h = All-nil IsValueByte
obfuscated_bytes_valid (b ∷ s) h =
    let p = and_parts (is_obfuscated_byte b) (list_all is_obfuscated_byte s) h in
    All-cons IsValueByte b s (obfuscated_byte_valid b p.0) (obfuscated_bytes_valid s p.1)

pub obfuscated_valid : (s : List ℕ) → is_obfuscated s ≡ true → IsFieldValue s
obfuscated_valid [] h = All-nil IsValueByte
obfuscated_valid (b ∷ s) h =
    let p = and_parts (b == 95) (not (length s == 0) && list_all is_obfuscated_byte s) h in
    let q = and_parts (not (length s == 0)) (list_all is_obfuscated_byte s) p.1 in
    let same : b ≡ 95 = eqb-true b 95 p.0 in
    All-cons IsValueByte b s (subst IsValueByte (sym same) refl) (obfuscated_bytes_valid s q.1)

-- what holds anyway, holds on success
pub on_ok : {T E P : Type 0} (r : Result T E) → P → OnOk r P
on_ok (Ok x) p = p
on_ok (Err e) p = tt
