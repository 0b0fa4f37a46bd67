-- Fields that are set in their order.
use Rattle.std.proofs.Common.{◌≡◌, ℕ, Bool, ◌||◌, ◌≤◌, ◌<◌, ◌-◌, List, [], ◌∷◌, ◌++◌, length, take, drop, get_or, arith}
use Rattle.std.{proofs.{Common.{refl, ap, sym, ◌∙◌}, lemmas.List.take_all}, specs.{List.list_any, Prelude.bytes_eq}}
use Rattle.headers.specs.LineMap.{field_of, fields_of as encoded_fields}
use Rattle.{headers.specs.declared.Encoded.Encoded, server_service.specs.Response.{headers_set, is_named, lines_unless}}

-- the first field, and the others
pub headers_set-next : (fields : List Encoded) (field : Encoded) → 1 ≤ length fields → field ≡ get_or fields 0 field
    → headers_set (encoded_fields fields)
    ≡ lines_unless (is_named field.name (encoded_fields (take (length fields - 1) (drop 1 fields)))) (field_of field)
    ++ headers_set (encoded_fields (take (length fields - 1) (drop 1 fields)))
headers_set-next [] field some is = absurd (omega (arith, some))
headers_set-next (first ∷ fields) field some is =
    let whole : take (length (first ∷ fields) - 1) fields ≡ fields =
    take_all (length (first ∷ fields) - 1) fields (omega arith) in
    ap (λ (rest : List Encoded). lines_unless (is_named first.name (encoded_fields rest)) (field_of first)
    ++ headers_set (encoded_fields rest)) (sym whole)
    ∙ ap (λ (x : Encoded).
    lines_unless (is_named x.name (encoded_fields (take (length (first ∷ fields) - 1) fields))) (field_of x)
    ++ headers_set (encoded_fields (take (length (first ∷ fields) - 1) fields))) (sym is)

pub headers_set-none : (fields : List Encoded) → length fields < 1 → headers_set (encoded_fields fields) ≡ []
headers_set-none [] none = refl
headers_set-none (field ∷ fields) none = absurd (omega (arith, none))

-- a field of a name is among some, as they are encoded
pub list_any-named : (name : List ℕ) (fields : List Encoded)
    → list_any (λ (field : Encoded). bytes_eq field.name name) fields ≡ is_named name (encoded_fields fields)
list_any-named name [] = refl
list_any-named name (field ∷ fields) =
    ap (λ (found : Bool). bytes_eq field.name name || found) (list_any-named name fields)
