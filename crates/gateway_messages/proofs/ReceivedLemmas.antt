-- What stands under each name of the received fields, and of those that pass a test.
use Rattle.std.proofs.Common.{◌≡◌, ◌≢◌, ℕ, suc, ◌<◌, Bool, true, false, List, [], ◌∷◌, ◌++◌, length, refl, sym, ◌∙◌, ap}
use Rattle.std.proofs.{Common.{inl, inr, arith, map, filter}, lemmas.{Bool.cases_Bool, Slice.Eq.bytes_eq-Decides}}
use Rattle.std.{proofs.lemmas.List.{append-nil, map-append}, specs.Prelude.{bytes_eq, if◌then◌else◌}}
use Rattle.http_header.specs.{FieldValue.FieldValue, HeaderMap.{Entry, Entries, IsUnique, entry_at, entry_pairs, pairs}}
use Rattle.{headers.specs.{LineMap.lines_at, Lines.{Line, lines_of}}, gateway_messages.specs.FieldLines.Field}
use Rattle.gateway_messages.specs.FieldLines.{field_of, lines_under}

pub differ : (a b : List ℕ) → a ≢ b → bytes_eq a b ≡ false
differ a b n = elim (cases_Bool (bytes_eq a b)) [ inl t ↦ absurd (n ((bytes_eq-Decides a b).0 t)) | inr f ↦ f ]

pub lines_under-append : (fields others : List Field) (name : List ℕ)
    → lines_under (fields ++ others) name ≡ lines_under fields name ++ lines_under others name
lines_under-append [] others name = refl
lines_under-append (field ∷ fields) others name =
    grind (arith, cases_Bool, bytes_eq, lines_under-append fields others name)

-- ---- the fields whose name passes a test

module _ (test : List ℕ → Bool) where
  abbrev passing : List Field → List Field
  passing fields = filter (λ field. test field.0) fields

  abbrev IsFiltered : List Field → List ℕ → Type 0
  IsFiltered fields name = lines_under (passing fields) name ≡ (if test name then lines_under fields name else [])

  filtered_own : (field : Field) (fields : List Field) (name : List ℕ) → bytes_eq field.0 name ≡ true
      → IsFiltered fields name → IsFiltered (field ∷ fields) name
  filtered_own field fields name own below = grind (arith, bytes_eq-Decides, cases_Bool, below)

  filtered_other : (field : Field) (fields : List Field) (name : List ℕ) → bytes_eq field.0 name ≡ false
      → IsFiltered fields name → IsFiltered (field ∷ fields) name
  filtered_other field fields name other below = grind (arith, cases_Bool, below)

  pub lines_under-filter : (fields : List Field) (name : List ℕ) → IsFiltered fields name
  lines_under-filter [] name = elim (cases_Bool (test name)) [ inl t ↦ rw t refl | inr f ↦ rw f refl ]
  lines_under-filter (field ∷ fields) name =
      grind (arith, cases_Bool, bytes_eq, filtered_own, filtered_other, lines_under-filter fields name)

-- ---- the pairs of a header map

entry_lines : (own : List ℕ) (values : List FieldValue) (name : List ℕ)
    → lines_under (map field_of (entry_pairs (own, values))) name ≡ (if bytes_eq own name then lines_of values else [])
entry_lines own [] name = elim (cases_Bool (bytes_eq own name)) [ inl t ↦ rw t refl | inr f ↦ rw f refl ]
entry_lines own (value ∷ values) name = grind (arith, cases_Bool, bytes_eq, entry_lines own values name)

abbrev map_lines : Entries FieldValue → List ℕ → List Line
map_lines m name = lines_under (map field_of (pairs m)) name

cons_lines : (e : Entry FieldValue) (m : Entries FieldValue) (name : List ℕ)
    → map_lines (e ∷ m) name ≡ (if bytes_eq e.0 name then lines_of e.1 else []) ++ map_lines m name
cons_lines e m name = ap (λ fields. lines_under fields name) (map-append field_of (entry_pairs e) (pairs m))
    ∙ lines_under-append (map field_of (entry_pairs e)) (map field_of (pairs m)) name
    ∙ ap (λ lines. lines ++ map_lines m name) (entry_lines e.0 e.1 name)

-- no entry has the name
abbrev IsAbsent : Entries FieldValue → List ℕ → Type 0
IsAbsent m name = (i : ℕ) → i < length m → (entry_at m i).0 ≢ name

absent_none : (m : Entries FieldValue) (name : List ℕ) → IsAbsent m name → map_lines m name ≡ []
absent_none [] name absent = refl
absent_none (e ∷ m) name absent = cons_lines e m _
    ∙ rw (differ e.0 name (absent 0 (omega arith))) (absent_none m name (λ i lt. absent (suc i) (omega arith)))

pub received_lines : (m : Entries FieldValue) (name : List ℕ) → IsUnique m → map_lines m name ≡ lines_at m name
received_lines [] name unique = refl
received_lines (e ∷ m) name unique = cons_lines e m name ∙ elim (cases_Bool (bytes_eq e.0 name)) [
  | inl t ↦ rw t (
      ap (λ rest. lines_of e.1 ++ rest) (absent_none m name (absent ((bytes_eq-Decides e.0 name).0 t)))
      ∙ append-nil (lines_of e.1))
  | inr f ↦ rw f (received_lines m name below)
]
  where
    absent : e.0 ≡ name → IsAbsent m name
    absent own i lt at =
        let same : 0 ≡ suc i = unique 0 (suc i) (omega arith) (omega arith) (own ∙ sym at) in omega arith

    below : IsUnique m
    below i j hi hj at = let same : suc i ≡ suc j = unique (suc i) (suc j) (omega arith) (omega arith) at in omega arith
