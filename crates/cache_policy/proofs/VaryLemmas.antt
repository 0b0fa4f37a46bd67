-- What the comparison of values says of their lines, and what is left of lists that are compared.
use Rattle.std.proofs.Common.{◌≡◌, ◌≢◌, List, [], ◌∷◌, All, Option, Some, None, refl, sym, inl, inr}
use Rattle.std.proofs.lemmas.{Bool.cases_Bool, Slice.Eq.bytes_eq-Decides, List.Elements.{All-cons, All-tail}}
use Rattle.std.specs.{Prelude.{Bool, true, false, ◌↔◌, bytes_eq}, Bool.{Decides, MatchBool}}
use Rattle.{std.specs.Cmp.Lexicographic.pointwise, http_header.specs.FieldValue.FieldValue}
use Rattle.{headers.specs.Lines.lines_of, rfc_fields.specs.Scan.{Member, Member.{Whole, Malformed}}}
use Rattle.cache_policy.specs.Varying.{AreSame, IsSame}

-- the first of a list, if it has one, and what comes after it
abbrev pub IsFirst : {X : Type 0} → Option X → List X → List X → Type 0
IsFirst None rest all = all ≡ []
IsFirst (Some x) rest all = all ≡ x ∷ rest

-- the values are equal, as `==` compares them
abbrev pub have_same : List FieldValue → List FieldValue → Bool
have_same xs ys = pointwise (λ (v w : FieldValue). bytes_eq v.bytes w.bytes) xs ys

same_lines : (xs ys : List FieldValue) → Decides (have_same xs ys) (lines_of xs ≡ lines_of ys)
same_lines [] [] = ((λ e. refl), (λ e. refl))
same_lines [] (y ∷ ys) = ((λ e. absurd (cc e)), (λ e. absurd (cc e)))
same_lines (x ∷ xs) [] = ((λ e. absurd (cc e)), (λ e. absurd (cc e)))
same_lines (x ∷ xs) (y ∷ ys) =
    let first = bytes_eq-Decides x.bytes y.bytes in
    let rest = same_lines xs ys in
    elim (cases_Bool (bytes_eq x.bytes y.bytes)) [
      | inl t ↦ (
        (λ e.
            let same : lines_of xs ≡ lines_of ys = rest.0 (rw t at e) in
            let head : x.bytes ≡ y.bytes = first.0 t in cc (same, head)),
        (λ e. let same : lines_of xs ≡ lines_of ys = cc e in rw t (rest.1 same)),
      )
      | inr f ↦ (
        (λ e. let no : false ≡ true = rw f at e in absurd (cc no)),
        (λ e.
            let head : x.bytes ≡ y.bytes = cc e in
            let yes = first.1 head in absurd (cc (f, yes))),
      )
    ]

-- values compare as equal exactly if their lines are equal
pub equal_lines : (r : Bool) (xs ys : List FieldValue) → r ≡ have_same xs ys
    → MatchBool r (lines_of xs ≡ lines_of ys) (lines_of xs ≢ lines_of ys)
equal_lines true xs ys h = (same_lines xs ys).0 (sym h)
equal_lines false xs ys h = λ e. let yes : have_same xs ys ≡ true = (same_lines xs ys).1 e in absurd (cc (h, yes))

-- if it holds of the first, it holds of all exactly if it holds of the others
pub all_but_first : {X : Type 0} (P : X → Type 0) (x : X) (xs : List X) → P x → All P (x ∷ xs) ↔ All P xs
all_but_first P x xs p = ((λ h. All-tail P x xs h), (λ h. All-cons P x xs p h))

-- lists with the same first member are the same exactly if their rests are
pub same_but_first : (m n : Member) (ms ns : List Member) → IsSame m (Some n)
    → AreSame (m ∷ ms) (n ∷ ns) ↔ AreSame ms ns
same_but_first (Whole s) (Whole t) ms ns e = (
  (λ h. (h.0, cc h.1)),
  (λ h. (h.0, cc (e, h.1))),
)
same_but_first (Whole s) Malformed ms ns e = absurd e
same_but_first Malformed n ms ns e = absurd e
