-- What is logged of a text has no quote.
use Rattle.std.proofs.Common.{◌≡◌, ℕ, ◌/◌, ◌%◌, ◌<◌, Bool, true, false, List, [], ◌∷◌, ◌++◌, refl, arith}
use Rattle.std.proofs.lemmas.{Bool.Decides.nat_tests, List.{Elements.{All-head, All-tail}, Sums.AllPass-from_list_all}}
use Rattle.{std.specs.{List.list_all, Prelude.{All, codes, if◌then◌else◌, slice_index}}, hex.specs.Hex.encode_lower}
use Rattle.{hex.specs.Hex.{encode_with, lower_digits}, server_program.specs.Log.{is_plain_byte, is_quotable, logged}}
use Rattle.server_program.specs.Log.{logged_byte}

digit : (n : ℕ) → n < 16 → is_quotable (slice_index lower_digits n) ≡ true
digit n below = AllPass-from_list_all is_quotable lower_digits refl n 0 below

quotable_byte : (plain : Bool) (byte : ℕ) → byte < 256 → is_plain_byte byte ≡ plain
    → list_all is_quotable (if plain then byte ∷ [] else codes "\\x" ++ encode_lower (byte ∷ [])) ≡ true
unfolding encode_with
quotable_byte true byte small e = grind (arith, nat_tests)
quotable_byte false byte small e =
    let high = digit (byte / 16) (omega arith) in
    let low = digit (byte % 16) (omega arith) in
    rw (high, low) refl

both : (front rest : List ℕ) → list_all is_quotable front ≡ true → list_all is_quotable rest ≡ true
    → list_all is_quotable (front ++ rest) ≡ true
both [] rest h k = k
both (byte ∷ front) rest h k = grind (arith, nat_tests, both front rest)

pub no_quote : (text : List ℕ) → All (λ byte. byte < 256) text → list_all is_quotable (logged text) ≡ true
no_quote [] small = refl
no_quote (byte ∷ text) small = both (logged_byte byte) (logged text)
    (quotable_byte (is_plain_byte byte) byte (All-head (λ b. b < 256) byte text small) refl)
    (no_quote text (All-tail (λ b. b < 256) byte text small))
