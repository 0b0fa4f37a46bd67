-- What is left once fields are set in their order.
use Rattle.std.proofs.Common.{◌≡◌, ◌≢◌, ◌⊎◌, ◌∙◌, ℕ, Bool, true, false, List, [], ◌∷◌, inl, inr, refl, ap, sym, subst}
use Rattle.std.proofs.{Common.{All, arith}, lemmas.{Bool.cases_Bool, List.Elements.{All-cons, All-nil}}}
use Rattle.std.{proofs.lemmas.{List.Kept.AllPairs-cons, Slice.Eq.bytes_eq-Decides}, specs.Prelude.bytes_eq}
use Rattle.{std.specs.{Prelude.if◌then◌else◌, List.AllPairs}, headers.specs.LineMap.{Field, LineMap, set, set_all}}
use Rattle.c_resource.specs.Settled.{is_set_by, settled}

-- a name that has the same lines in two maps has so after fields are set in both
set_all-alike : (m n : LineMap) (fields : List Field) (name : List ℕ) → m name ≡ n name
    → set_all m fields name ≡ set_all n fields name
set_all-alike m n [] name same = same
set_all-alike m n (field ∷ fields) name same =
    set_all-alike (set m field) (set n field) fields name (by (bytes_eq field.0 name) same)
  where
    by : (b : Bool) → m name ≡ n name → (if b then field.1 else m name) ≡ (if b then field.1 else n name)
    by true e = refl
    by false e = e

-- a name that one of the fields has doesn't depend on the map before
set_all-set : (m n : LineMap) (fields : List Field) (name : List ℕ) → is_set_by name fields ≡ true
    → set_all m fields name ≡ set_all n fields name
set_all-set m n [] name is_set = absurd (cc is_set)
set_all-set m n (field ∷ fields) name is_set = elim (cases_Bool (bytes_eq field.0 name)) [
  | inl t ↦
      let one : set m field name ≡ field.1 = rw t refl in
      let other : set n field name ≡ field.1 = rw t refl in
      set_all-alike (set m field) (set n field) fields name (one ∙ sym other)
  | inr f ↦
      let later : is_set_by name fields ≡ true = rw f at is_set in
      set_all-set (set m field) (set n field) fields name later
]

-- the fields that are left set what all of them set
pub set_all-settled : (m : LineMap) (fields : List Field) (name : List ℕ)
    → set_all m (settled fields) name ≡ set_all m fields name
set_all-settled m [] name = refl
set_all-settled m (field ∷ fields) name = elim (cases_Bool (is_set_by field.0 fields)) [
  | inl t ↦
      let left : settled (field ∷ fields) ≡ settled fields = rw t refl in
      ap (λ (it : List Field). set_all m it name) left
      ∙ set_all-settled m fields name
      ∙ by t (cases_Bool (bytes_eq field.0 name))
  | inr f ↦
      let left : settled (field ∷ fields) ≡ field ∷ settled fields = rw f refl in
      ap (λ (it : List Field). set_all m it name) left ∙ set_all-settled (set m field) fields name
]
  where
    by : is_set_by field.0 fields ≡ true → (bytes_eq field.0 name ≡ true) ⊎ (bytes_eq field.0 name ≡ false)
        → set_all m fields name ≡ set_all (set m field) fields name
    by t (inl same) =
        let is : field.0 ≡ name = (bytes_eq-Decides field.0 name).0 same in
        set_all-set m (set m field) fields name (subst (λ (it : List ℕ). is_set_by it fields ≡ true) is t)
    by t (inr other) = set_all-alike m (set m field) fields name (rw other refl)

-- a name that no field has is that of none that is left
settled-others : (name : List ℕ) (fields : List Field) → is_set_by name fields ≡ false
    → All (λ (field : Field). name ≢ field.0) (settled fields)
settled-others name [] none = All-nil (λ (field : Field). name ≢ field.0)
settled-others name (field ∷ fields) none = elim (cases_Bool (bytes_eq field.0 name)) [
  | inl t ↦ let some : is_set_by name (field ∷ fields) ≡ true = rw t refl in absurd (cc (none, some))
  | inr f ↦
      let later : is_set_by name fields ≡ false = rw f at none in
      by f (settled-others name fields later) (cases_Bool (is_set_by field.0 fields))
]
  where
    by : bytes_eq field.0 name ≡ false → All (λ (it : Field). name ≢ it.0) (settled fields)
        → (is_set_by field.0 fields ≡ true) ⊎ (is_set_by field.0 fields ≡ false)
        → All (λ (it : Field). name ≢ it.0) (settled (field ∷ fields))
    by f all (inl t) =
        let left : settled (field ∷ fields) ≡ settled fields = rw t refl in
        subst (All (λ (it : Field). name ≢ it.0)) (sym left) all
    by f all (inr g) =
        let left : settled (field ∷ fields) ≡ field ∷ settled fields = rw g refl in
        let other : name ≢ field.0 =
        λ is. let same : bytes_eq field.0 name ≡ true = (bytes_eq-Decides field.0 name).1 (sym is) in
        absurd (cc (f, same)) in
        subst (All (λ (it : Field). name ≢ it.0)) (sym left)
        (All-cons (λ (it : Field). name ≢ it.0) field (settled fields) other all)

-- the fields that are left have names of their own
pub settled-once : (fields : List Field) → AllPairs (λ (one other : Field). one.0 ≢ other.0) (settled fields)
settled-once [] = λ i j d before below. absurd (omega (arith, below))
settled-once (field ∷ fields) = elim (cases_Bool (is_set_by field.0 fields)) [
  | inl t ↦
      let left : settled (field ∷ fields) ≡ settled fields = rw t refl in
      subst (AllPairs (λ (one other : Field). one.0 ≢ other.0)) (sym left) (settled-once fields)
  | inr f ↦
      let left : settled (field ∷ fields) ≡ field ∷ settled fields = rw f refl in
      subst (AllPairs (λ (one other : Field). one.0 ≢ other.0)) (sym left)
      (AllPairs-cons (λ (one other : Field). one.0 ≢ other.0) field (settled fields)
      (settled-others field.0 fields f) (settled-once fields))
]
