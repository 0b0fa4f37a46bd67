-- Lists by their places.
use Rattle.std.proofs.Common.{◌≡◌, ℕ, zero, suc, ◌+◌, ◌<◌, List, [], ◌∷◌, ◌++◌, Some, arith, ◌∙◌, Bool, ap, get_or}
use Rattle.std.proofs.Common.{length, length-append, map, option_map, refl, slice_get, subst, sym, zero-add, ◌||◌, All}
use Rattle.std.proofs.{Common.{inl, inr, take}, lemmas.List.{map-append, take_more, Elements.All-get_or}}
use Rattle.std.{proofs.lemmas.Option.{slice_get-map, slice_get_cases, slice_get_read}, specs.List.list_any}
use Rattle.{http_header.specs.FieldValue.FieldValue, headers.specs.Lines.lines_of, c_resource.specs.Lists.IsEachAt}

-- the value at a place of a list with one more: an old one at its place, or the new one at the end
at_push : {X : Type 0} (P : ℕ → X → Type 0) (values : List X) (value : X) (start : ℕ)
    → ((place : ℕ) (x : X) → slice_get values place ≡ Some x → P (start + place) x) → P (start + length values) value
    → (place : ℕ) (x : X) → slice_get (values ++ value ∷ []) place ≡ Some x → P (start + place) x
at_push P [] value start old new zero x is = subst (P (start + 0)) (cc is) new
at_push P [] value start old new (suc place) x is = absurd (cc is)
at_push P (first ∷ values) value start old new zero x is = old zero x is
at_push P (first ∷ values) value start old new (suc place) x is =
    let moved : (n : ℕ) → (start + 1) + n ≡ start + suc n = λ n. omega arith in
    subst (λ (n : ℕ). P n x) (moved place) (at_push P values value (start + 1)
    (λ n y at. subst (λ (m : ℕ). P m y) (sym (moved n)) (old (suc n) y at))
    (subst (λ (m : ℕ). P m value) (sym (moved (length values))) new) place x is)

-- one value more, at the next place
pub IsEachAt-push : {X : Type 0} (P : ℕ → X → Type 0) (count : ℕ) (values : List X) (value : X)
    → IsEachAt P count values → P count value → IsEachAt P (count + 1) (values ++ value ∷ [])
IsEachAt-push P count values value all new =
    let at : count ≡ 0 + length values = sym (zero-add (length values) ∙ all.count_is) in
    let last : P (0 + length values) value = subst (λ (n : ℕ). P n value) at new in
    record {
      count_is = simp length-append (omega (arith, all.count_is));
      each = λ place x is. subst (λ (n : ℕ). P n x) (zero-add place) (at_push P values value 0
          (λ n y here. subst (λ (m : ℕ). P m y) (sym (zero-add n)) (all.each n y here)) last place x is);
    }

-- a test of what each element is mapped to
pub list_any-map : {X Y : Type 0} (p : Y → Bool) (f : X → Y) (xs : List X)
    → list_any p (map f xs) ≡ list_any (λ x. p (f x)) xs
list_any-map p f [] = refl
list_any-map p f (x ∷ xs) = ap (λ (b : Bool). p (f x) || b) (list_any-map p f xs)

-- the bytes of the value at a place
pub line_at : (values : List FieldValue) (place : ℕ) (value : FieldValue) → place < length values
    → value ≡ get_or values place value → slice_get (lines_of values) place ≡ Some value.bytes
line_at values place value below is = slice_get-map (λ (v : FieldValue). v.bytes) values place
    ∙ ap (option_map (λ (v : FieldValue). v.bytes)) (slice_get_read values (length values) place value refl below is)

-- the bytes of one value more
pub lines_of-more : (values : List FieldValue) (place : ℕ) (value : FieldValue) → place < length values
    → value ≡ get_or values place value
    → lines_of (take (place + 1) values) ≡ lines_of (take place values) ++ value.bytes ∷ []
lines_of-more values place value below is =
    ap lines_of (take_more values place value below ∙ ap (λ (v : FieldValue). take place values ++ v ∷ []) (sym is))
    ∙ map-append (λ (v : FieldValue). v.bytes) (take place values) (value ∷ [])

-- what holds of each value holds of that at a place
pub All-at : {X : Type 0} (P : X → Type 0) (values : List X) (place : ℕ) (value : X) → All P values
    → slice_get values place ≡ Some value → P value
All-at P values place value all at = elim ((slice_get_cases values place).1) [
  | inl found ↦
      let same : get_or values place found.0 ≡ value = cc (found.2, found.3, at) in
      subst P same (All-get_or P values place found.0 found.1 all)
  | inr past ↦ absurd (cc (at, past.1))
]
