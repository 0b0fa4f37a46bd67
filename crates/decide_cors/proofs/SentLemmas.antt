-- Hosts of origins, and how many origins browsers send.
use Rattle.std.proofs.Common.{◌≡◌, ◌<◌, ◌∙◌, ℕ, true, List, [], ◌∷◌, None, Some, arith, length, refl, rules, sym, tests}
use Rattle.std.proofs.lemmas.{List.{Elements.All-weaker, Sums.AllPass-from_list_all, length-map}, Str.IsUtf8-from_ascii}
use Rattle.std.{proofs.lemmas.Str.Ascii.IsAscii-from_all, specs.{List.{list_all, prefix_len}, Str.IsUtf8}}
use Rattle.{http_header.specs.FieldValue.FieldValue, headers.specs.Lines.lines_of}
use Rattle.decide_cors.specs.SentOrigins.{is_host_byte, is_sent, sent_count, unsent_place}

host_byte_ascii : (b : ℕ) → is_host_byte b ≡ true → b < 128
host_byte_ascii b e = search (rules, arith)

pub IsUtf8-host : (host : List ℕ) → list_all is_host_byte host ≡ true → IsUtf8 host
IsUtf8-host host e = IsUtf8-from_ascii host (IsAscii-from_all host
    (All-weaker (λ b. is_host_byte b ≡ true) (λ b. b < 128) host_byte_ascii host
    (AllPass-from_list_all is_host_byte host e)))

pub sent_lines : (values : List FieldValue)
    → prefix_len (λ value. is_sent value.bytes) values ≡ prefix_len is_sent (lines_of values)
sent_lines [] = refl
sent_lines (value ∷ values) = grind (arith, sent_lines values)

module _ (listed : List FieldValue) (place : ℕ) (e : place ≡ prefix_len (λ origin. is_sent origin.bytes) listed) where
  count_is : sent_count (lines_of listed) ≡ place
  count_is = sym (e ∙ sent_lines listed)

  size_is : length (lines_of listed) ≡ length listed
  size_is = length-map listed (λ (origin : FieldValue). origin.bytes)

  pub unsent_at : place < length listed → unsent_place (lines_of listed) ≡ Some place
  unsent_at l = rw (count_is, size_is) (search (rules, tests, l))

  pub unsent_nowhere : ¬ (place < length listed) → unsent_place (lines_of listed) ≡ None
  unsent_nowhere l = rw (count_is, size_is) (search (rules, tests, l))
