-- What is granted of listed origins.
use Rattle.std.proofs.Common.{◌≡◌, Bool, Option, Some, None, List, [], ◌∷◌, refl, ap, arith}
use Rattle.{std.specs.{Prelude.{if◌then◌else◌, bytes_eq}, List.list_any}, http_header.specs.FieldValue.FieldValue}
use Rattle.{headers.specs.Lines.{Line, lines_of}, decide_cors.specs.Fields.grant}

-- a test of the bytes of some values
pub any_lines : (p : Line → Bool) (values : List FieldValue)
    → list_any (λ value. p value.bytes) values ≡ list_any p (lines_of values)
any_lines p [] = refl
any_lines p (value ∷ values) = grind (arith, any_lines p values)

-- what a request with one field line of Origin is granted
pub granted_by : (origins : Option (List Line)) (sent : Option Line) (listed : List FieldValue) (text : Line) (b : Bool)
    → origins ≡ Some (lines_of listed) → sent ≡ Some text → b ≡ list_any (λ value. bytes_eq text value.bytes) listed
    → (if b then Some text else None) ≡ grant origins sent
granted_by origins sent listed text b e f r = rw e (rw f (rw r
    (ap (λ (any : Bool). let line : Option Line = if any then Some text else None in line)
    (any_lines (bytes_eq text) listed))))
