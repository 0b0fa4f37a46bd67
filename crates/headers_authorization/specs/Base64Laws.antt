-- The bytes of base64, and the one list of bytes that it encodes.
use Rattle.std.proofs.Common.{◌≡◌, ℕ, zero, suc, ◌+◌, ◌*◌, ◌/◌, ◌%◌, ◌<◌, Bool, true, false, ◌&&◌, List, [], ◌∷◌, ◌++◌}
use Rattle.std.{proofs.Common.{length, replicate, slice_index, refl, sym, ◌∙◌, ap, arith}, specs.Prelude.{nat_le, ◌==◌}}
use Rattle.std.{specs.Prelude.Ok, specs.List.{list_all, prefix_len}, proofs.lemmas.Bool.{and_parts, and_from, leb-true}}
use Rattle.std.{proofs.lemmas.Bool.Decides.nat_tests, proofs.lemmas.List.Folds.list_all-append}
use Rattle.std.proofs.lemmas.List.Sums.{AllPass-from_list_all}
use Rattle.http_header.{specs.Token.{space, is_visible_or_blank}, specs.FieldValue.{IsFieldValue, is_visible_text}}
use Rattle.http_header.proofs.TokenLemmas.{IsFieldValue-from_visible}
use Rattle.base64.{specs.Rfc4648.{encode_symbols, padding_len}, specs.GeneralPurpose.{IsBytes, decode_of, encode_of}}
use Rattle.base64.{specs.Engines.standard, proofs.Tables.all_below_at, proofs.EngineFacts.decode_of-encode_of}
use Rattle.headers_authorization.specs.Base64.{base64}

-- VCHAR of RFC 5234: visible ASCII
abbrev is_vchar : ℕ → Bool
is_vchar b = nat_le 33 b && nat_le b 126

abbrev alphabet : List ℕ
alphabet = standard.encode_table

vchar_alphabet : (i : ℕ) → i < 64 → is_vchar (slice_index alphabet i) ≡ true
vchar_alphabet i lt = all_below_at (λ k. is_vchar (slice_index alphabet k)) 64 i refl lt

-- a symbol, and a test of what follows it
symbol_and : (i : ℕ) (rest : Bool) → i < 64 → rest ≡ true → (is_vchar (slice_index alphabet i) && rest) ≡ true
symbol_and i rest lt later = and_from _ rest (vchar_alphabet i lt) later

vchar_symbols : (m : List ℕ) → IsBytes m → list_all is_vchar (encode_symbols alphabet m) ≡ true
unfolding encode_symbols
vchar_symbols [] h = refl
vchar_symbols (a ∷ []) h =
    let byte : a < 256 = h 0 in
    symbol_and (a / 4) _ (omega arith) (symbol_and (a % 4 * 16) true (omega arith) refl)
vchar_symbols (a ∷ b ∷ []) h =
    let byte : a < 256 = h 0 in
    let next : b < 256 = h 1 in
    symbol_and (a / 4) _ (omega arith) (symbol_and (a % 4 * 16 + b / 16) _ (omega arith)
    (symbol_and (b % 16 * 4) true (omega arith) refl))
vchar_symbols (a ∷ b ∷ c ∷ rest) h =
    let byte : a < 256 = h 0 in
    let next : b < 256 = h 1 in
    let last : c < 256 = h 2 in
    let later = vchar_symbols rest (λ k. h (suc (suc (suc k)))) in
    symbol_and (a / 4) _ (omega arith) (symbol_and (a % 4 * 16 + b / 16) _ (omega arith)
    (symbol_and (b % 16 * 4 + c / 64) _ (omega arith) (symbol_and (c % 64) _ (omega arith) later)))

vchar_padding : (n : ℕ) → list_all is_vchar (replicate n 61) ≡ true
vchar_padding zero = refl
vchar_padding (suc n) = vchar_padding n

vchar_base64 : (m : List ℕ) → IsBytes m → list_all is_vchar (base64 m) ≡ true
unfolding base64
vchar_base64 m h =
    list_all-append is_vchar (encode_symbols alphabet m) (replicate (padding_len (length m)) 61)
    ∙ and_from _ _ (vchar_symbols m h) (vchar_padding (padding_len (length m)))

visible_vchar : (b : ℕ) → is_vchar b ≡ true → is_visible_or_blank b ≡ true
visible_vchar b h =
    let parts = and_parts (nat_le 33 b) (nat_le b 126) h in
    let low = leb-true 33 b parts.0 in
    let high = leb-true b 126 parts.1 in
    grind (arith, nat_tests)

visible_vchars : (s : List ℕ) → list_all is_vchar s ≡ true → list_all is_visible_or_blank s ≡ true
visible_vchars [] h = refl
visible_vchars (b ∷ s) h =
    let parts = and_parts (is_vchar b) (list_all is_vchar s) h in
    and_from _ _ (visible_vchar b parts.0) (visible_vchars s parts.1)

-- what follows visible text in a value
pub IsFieldValue-base64 : (prefix m : List ℕ) → is_visible_text prefix ≡ true → IsBytes m
    → IsFieldValue (prefix ++ base64 m)
IsFieldValue-base64 prefix m h bytes =
    let all : list_all is_visible_or_blank (prefix ++ base64 m) ≡ true =
    list_all-append is_visible_or_blank prefix (base64 m)
    ∙ and_from _ _ h (visible_vchars (base64 m) (vchar_base64 m bytes)) in
    IsFieldValue-from_visible _ (AllPass-from_list_all is_visible_or_blank _ all)

no_space : (s : List ℕ) → list_all is_vchar s ≡ true → prefix_len (λ b. b == space) s ≡ 0
no_space [] h = refl
no_space (b ∷ s) h =
    let first = (and_parts (is_vchar b) (list_all is_vchar s) h).0 in
    let low = leb-true 33 b (and_parts (nat_le 33 b) (nat_le b 126) first).0 in
    let no : (b == space) ≡ false = grind (arith, nat_tests) in
    rw no refl

-- it begins with no space
pub base64-no_space : (m : List ℕ) → IsBytes m → prefix_len (λ b. b == space) (base64 m) ≡ 0
base64-no_space m h = no_space (base64 m) (vchar_base64 m h)

-- other bytes have other base64
pub base64-once : (m n : List ℕ) → IsBytes m → IsBytes n → base64 m ≡ base64 n → m ≡ n
unfolding base64
base64-once m n hm hn same =
    let one : decode_of standard (encode_of standard m) ≡ Ok m = decode_of-encode_of standard m refl hm in
    let two : decode_of standard (encode_of standard n) ≡ Ok n = decode_of-encode_of standard n refl hn in
    let ok : Ok m ≡ Ok n = sym one ∙ ap (decode_of standard) same ∙ two in
    cc ok
