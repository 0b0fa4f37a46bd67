-- The digits of a digest are a boundary, and stand in a tag.
use Rattle.std.proofs.Common.{◌≡◌, ℕ, suc, zero, ◌/◌, ◌%◌, ◌<◌, true, false, List, [], ◌∷◌, ◌++◌, length, get_or, refl}
use Rattle.std.proofs.{Common.{arith, rules, IsTrue}, lemmas.{Bool.Decides.nat_tests, List.Elements.All-append}}
use Rattle.std.proofs.lemmas.List.{Elements.{All-cons, All-get_or, All-nil, All-weaker}, Sums.AllPass-from_list_all}
use Rattle.std.specs.{Int.{byte_at, bytes_high_first}, List.{AllPass, list_all}, Prelude.{All, slice_index}}
use Rattle.hex.{specs.Hex.{encode_lower, encode_with, lower_digits}, proofs.HexLemmas.length-encode_with}
use Rattle.http_header.{specs.{FieldValue.IsFieldValue, Token.is_value_byte}, proofs.TokenLemmas.AllPass-from_test}
use Rattle.headers.specs.{EntityTag.{IsSomeTag, is_tag_byte}, Text.quote}
use Rattle.decide_preconditions.{specs.Boundaries.{is_boundary, is_boundary_byte}, proofs.BoundaryLemmas.value_byte}
use Rattle.sha2.{specs.Sha256.{digest_bytes, sha256}, proofs.Facts256.length-sha256}
use Rattle.server_files.specs.Tags.{content_digest, strong_tag}

abbrev IsByte : ℕ → Type 0
IsByte b = b < 256

byte_small : (place n : ℕ) → IsByte (byte_at place n)
byte_small zero n = omega arith
byte_small (suc place) n = omega arith

word_small : (count n : ℕ) → All IsByte (bytes_high_first count n)
word_small zero n = All-nil IsByte
word_small (suc count) n = All-cons IsByte _ (bytes_high_first count n) (byte_small count n) (word_small count n)

digest_small : (h : List ℕ) (count : ℕ) → All IsByte (digest_bytes h count)
unfolding digest_bytes
digest_small h zero = All-nil IsByte
digest_small h (suc count) =
    All-append IsByte (digest_bytes h count) _ (digest_small h count) (word_small 4 (slice_index h count))

sha256_small : (content : List ℕ) → All IsByte (sha256 content)
unfolding sha256
sha256_small content = digest_small _ 8

digit : (n : ℕ) → n < 16 → is_boundary_byte (slice_index lower_digits n) ≡ true
digit n below = AllPass-from_list_all is_boundary_byte lower_digits refl n 0 below

digits : (bytes : List ℕ) → ((i : ℕ) → i < length bytes → get_or bytes i 0 < 256)
    → list_all is_boundary_byte (encode_lower bytes) ≡ true
unfolding encode_with
digits [] small = refl
digits (b ∷ bytes) small =
    let first : b < 256 = small zero (omega arith) in
    let high = digit (b / 16) (omega arith) in
    let low = digit (b % 16) (omega arith) in
    let others = digits bytes (λ i within. small (suc i) (omega arith)) in
    rw (high, low) others

-- the digits of a digest are a boundary
pub digest_is_boundary : (content : List ℕ) → is_boundary (content_digest content) ≡ true
unfolding content_digest
digest_is_boundary content =
    let count = length-sha256 content in
    let long = length-encode_with lower_digits (sha256 content) in
    let small = sha256_small content in
    let all = digits (sha256 content) (λ i within. All-get_or IsByte (sha256 content) i 0 within small) in
    grind (arith, nat_tests)

tag_byte : (b : ℕ) → is_boundary_byte b ≡ true → IsTrue (is_tag_byte b)
tag_byte b e = grind (arith, nat_tests)

module _ (digits : List ℕ) (e : is_boundary digits ≡ true) where
  all_digits : AllPass is_boundary_byte digits
  all_digits =
      let all : list_all is_boundary_byte digits ≡ true = search rules in
      AllPass-from_list_all is_boundary_byte digits all

  -- their tag is a value of a field, and a tag
  pub tag_is_value : IsFieldValue (strong_tag digits)
  tag_is_value = All-cons (λ b. IsTrue (is_value_byte b)) quote (digits ++ quote ∷ []) refl
      (All-append (λ b. IsTrue (is_value_byte b)) digits (quote ∷ [])
      (All-weaker (λ b. is_boundary_byte b ≡ true) (λ b. IsTrue (is_value_byte b)) value_byte digits all_digits)
      (AllPass-from_test is_value_byte (quote ∷ []) refl))

  pub tag_is_tag : IsSomeTag (strong_tag digits)
  tag_is_tag = (
    record { is_weak = false; opaque = digits },
    record {
      text = refl;
      opaque = All-weaker (λ b. is_boundary_byte b ≡ true) (λ b. IsTrue (is_tag_byte b)) tag_byte digits all_digits;
    },
  )
