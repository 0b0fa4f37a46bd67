-- What a boundary is written in is a value of a field.
use Rattle.std.proofs.{Common.{◌≡◌, ℕ, true, List, IsTrue, refl, rules, arith}, lemmas.Bool.Decides.nat_tests}
use Rattle.std.{proofs.lemmas.List.{Elements.{All-append, All-weaker}, Sums.AllPass-from_list_all}, specs.List.list_all}
use Rattle.{std.specs.Prelude.codes, http_header.specs.{FieldValue.IsFieldValue, Token.is_value_byte}}
use Rattle.{http_header.proofs.TokenLemmas.AllPass-from_test, decide_preconditions.specs.Boundaries.is_boundary}
use Rattle.decide_preconditions.specs.Boundaries.{is_boundary_byte, multipart_type}

pub value_byte : (b : ℕ) → is_boundary_byte b ≡ true → IsTrue (is_value_byte b)
value_byte b e = grind (arith, nat_tests)

pub IsFieldValue-multipart_type : (text : List ℕ) → is_boundary text ≡ true → IsFieldValue (multipart_type text)
IsFieldValue-multipart_type text e =
    let all : list_all is_boundary_byte text ≡ true = search rules in
    let kind : List ℕ = codes "multipart/byteranges; boundary=" in
    All-append (λ b. IsTrue (is_value_byte b)) kind text (AllPass-from_test is_value_byte kind refl)
    (All-weaker (λ b. is_boundary_byte b ≡ true) (λ b. IsTrue (is_value_byte b)) value_byte text
    (AllPass-from_list_all is_boundary_byte text all))
