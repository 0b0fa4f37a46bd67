-- Facts that hold or don't: what the definitions are made of.
use Rattle.std.proofs.Common.{◌≡◌, ℕ, ◌<◌, ◌≤◌, Bool, true, false, List, [], ◌∷◌, All, Option, Some, None, refl, inl}
use Rattle.std.{proofs.Common.{inr, arith}, proofs.lemmas.Bool.{cases_Bool, cases_lt}}
use Rattle.std.{proofs.lemmas.Slice.Eq.bytes_eq-Decides, proofs.lemmas.List.Elements.{All-cons, All-head, All-nil}}
use Rattle.std.{proofs.lemmas.List.Elements.All-tail, specs.Prelude.{◌⊎◌, IfSome, IsSome, IsSomeAnd, bytes_eq}}

-- it holds or it doesn't
abbrev pub IsDecidable : Type 0 → Type 0
IsDecidable P = P ⊎ (¬ P)

pub decide_both : {P Q : Type 0} → IsDecidable P → IsDecidable Q → IsDecidable (P × Q)
decide_both (inl p) (inl q) = inl (p, q)
decide_both (inl p) (inr n) = inr (λ h. n h.1)
decide_both (inr n) q = inr (λ h. n h.0)

pub decide_three : {P Q R : Type 0} → IsDecidable P → IsDecidable Q → IsDecidable R → IsDecidable (P × Q × R)
decide_three (inl p) (inl q) (inl r) = inl (p, q, r)
decide_three (inl p) (inl q) (inr n) = inr (λ h. n h.2)
decide_three (inl p) (inr n) r = inr (λ h. n h.1)
decide_three (inr n) q r = inr (λ h. n h.0)

pub decide_five : {P Q R S T : Type 0} → IsDecidable P → IsDecidable Q → IsDecidable R → IsDecidable S → IsDecidable T
    → IsDecidable (P × Q × R × S × T)
decide_five (inl p) (inl q) (inl r) (inl s) (inl t) = inl (p, q, r, s, t)
decide_five (inl p) (inl q) (inl r) (inl s) (inr n) = inr (λ h. n h.4)
decide_five (inl p) (inl q) (inl r) (inr n) t = inr (λ h. n h.3)
decide_five (inl p) (inl q) (inr n) s t = inr (λ h. n h.2)
decide_five (inl p) (inr n) r s t = inr (λ h. n h.1)
decide_five (inr n) q r s t = inr (λ h. n h.0)

pub decide_either : {P Q : Type 0} → IsDecidable P → IsDecidable Q → IsDecidable (P ⊎ Q)
decide_either (inl p) q = inl (inl p)
decide_either (inr n) (inl q) = inl (inr q)
decide_either {P} {Q} (inr n) (inr m) = inr by
  where
    by : ¬ (P ⊎ Q)
    by (inl p) = n p
    by (inr q) = m q

pub decide_not : {P : Type 0} → IsDecidable P → IsDecidable (¬ P)
decide_not (inl p) = inr (λ n. n p)
decide_not (inr n) = inl n

pub decide_if : {P Q : Type 0} → IsDecidable P → IsDecidable Q → IsDecidable (P → Q)
decide_if (inl p) (inl q) = inl (λ _. q)
decide_if (inl p) (inr m) = inr (λ f. m (f p))
decide_if (inr n) q = inl (λ p. absurd (n p))

pub decide_Bool : (a b : Bool) → IsDecidable (a ≡ b)
decide_Bool true true = inl refl
decide_Bool true false = inr (λ e. absurd (cc e))
decide_Bool false true = inr (λ e. absurd (cc e))
decide_Bool false false = inl refl

pub decide_lt : (a b : ℕ) → IsDecidable (a < b)
decide_lt a b = elim (cases_lt a b) [ inl low ↦ inl low | inr high ↦ inr (λ low. absurd (omega (arith, low, high))) ]

pub decide_le : (a b : ℕ) → IsDecidable (a ≤ b)
decide_le a b = elim (cases_lt b a) [
  | inl low ↦ inr (λ high. absurd (omega (arith, low, high)))
  | inr high ↦ inl high
]

pub decide_IfSome : {X : Type 0} (o : Option X) (P : X → Type 0) → ((x : X) → IsDecidable (P x))
    → IsDecidable (IfSome o P)
decide_IfSome None P d = inl tt
decide_IfSome (Some x) P d = d x

pub decide_IsSomeAnd : {X : Type 0} (o : Option X) (P : X → Type 0) → ((x : X) → IsDecidable (P x))
    → IsDecidable (IsSomeAnd o P)
decide_IsSomeAnd None P d = inr (λ h. absurd h)
decide_IsSomeAnd (Some x) P d = d x

pub decide_IsSome : {X : Type 0} (o : Option X) → IsDecidable (IsSome o)
decide_IsSome None = inr (λ h. absurd (cc h))
decide_IsSome (Some x) = inl refl

pub decide_bytes : (xs ys : List ℕ) → IsDecidable (xs ≡ ys)
decide_bytes xs ys = elim (cases_Bool (bytes_eq xs ys)) [
  | inl same ↦ inl ((bytes_eq-Decides xs ys).0 same)
  | inr other ↦ inr (λ e. let same = (bytes_eq-Decides xs ys).1 e in absurd (cc (same, other)))
]

pub decide_list : {X : Type 0} → ((x y : X) → IsDecidable (x ≡ y)) → (xs ys : List X) → IsDecidable (xs ≡ ys)
decide_list d [] [] = inl refl
decide_list d [] (y ∷ ys) = inr (λ e. absurd (cc e))
decide_list d (x ∷ xs) [] = inr (λ e. absurd (cc e))
decide_list {X} d (x ∷ xs) (y ∷ ys) = by (d x y) (decide_list d xs ys)
  where
    by : IsDecidable (x ≡ y) → IsDecidable (xs ≡ ys) → IsDecidable (x ∷ xs ≡ y ∷ ys)
    by (inl e) (inl f) = inl (cc (e, f))
    by (inl e) (inr n) = inr (λ g. let f : xs ≡ ys = cc g in n f)
    by (inr n) f = inr (λ g. let e : x ≡ y = cc g in n e)

pub decide_All : {X : Type 0} (P : X → Type 0) → ((x : X) → IsDecidable (P x)) → (xs : List X) → IsDecidable (All P xs)
decide_All P d [] = inl (All-nil P)
decide_All {X} P d (x ∷ xs) = by (d x) (decide_All P d xs)
  where
    by : IsDecidable (P x) → IsDecidable (All P xs) → IsDecidable (All P (x ∷ xs))
    by (inl p) (inl h) = inl (All-cons P x xs p h)
    by (inl p) (inr n) = inr (λ h. n (All-tail P x xs h))
    by (inr n) h = inr (λ h. n (All-head P x xs h))
