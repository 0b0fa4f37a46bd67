-- Elements of lists.
use Rattle.std.proofs.Common.{◌≡◌, ◌⊎◌, ℕ, zero, suc, Bool, true, false, List, [], ◌∷◌, ◌++◌, map, slice_get, nat_eq}
use Rattle.std.proofs.{Common.{Option, Some, None, refl, sym, subst, arith, inl, inr, length}, lemmas.Bool.eqb-true}
use Rattle.{std.specs.Prelude.{⊤, if◌then◌else◌}, updates.specs.Statements.Has}

pub Has_append : {X : Type 0} (xs ys : List X) (x : X) → Has (xs ++ ys) x → Has xs x ⊎ Has ys x
Has_append [] ys x has = inr has
Has_append (y ∷ xs) ys x has = grind (arith, Has_append xs ys x)

pub Has_right : {X : Type 0} (xs ys : List X) (x : X) → Has ys x → Has (xs ++ ys) x
Has_right [] ys x has = has
Has_right (y ∷ xs) ys x has = inr (Has_right xs ys x has)

pub Has_slice_get : {X : Type 0} (xs : List X) (i : ℕ) (x : X) → slice_get xs i ≡ Some x → Has xs x
Has_slice_get [] i x e = absurd (grind (arith, e))
Has_slice_get (y ∷ xs) zero x e = grind (arith, e)
Has_slice_get (y ∷ xs) (suc i) x e = inr (Has_slice_get xs i x e)

pub Has_map : {X Y : Type 0} (f : X → Y) (xs : List X) (x : X) → Has xs x → Has (map f xs) (f x)
Has_map f [] x has = absurd has
Has_map f (y ∷ xs) x has = grind (arith, Has_map f xs x)

-- what holds of an element and of those after it
pub each-cons : {X : Type 0} {P : X → Type 0} (y : X) (ys : List X) → P y → ((x : X) → Has ys x → P x) → (x : X)
    → Has (y ∷ ys) x → P x
each-cons {P = P} y ys here there x (inl same) = subst P same here
each-cons y ys here there x (inr has) = there x has

-- what holds of something, if there is something
abbrev pub IfFound : {X : Type 0} → (X → Type 0) → Option X → Type 0
IfFound P None = ⊤
IfFound P (Some x) = P x

pub Has_found : {X : Type 0} (xs : List X) (k : ℕ) → IfFound (Has xs) (slice_get xs k)
Has_found xs k = grind (arith, Has_slice_get xs k)

pub found_each : {X : Type 0} (P : X → Type 0) (xs : List X) → ((k : ℕ) → IfFound P (slice_get xs k)) → (x : X)
    → Has xs x → P x
found_each P [] all x none = absurd none
found_each P (y ∷ ys) all x (inl same) = subst P same (all 0)
found_each P (y ∷ ys) all x (inr has) = found_each P ys (λ k. all (suc k)) x has

pub slice_get_push : {X : Type 0} (xs : List X) (x : X) (k : ℕ)
    → slice_get (xs ++ x ∷ []) k ≡ (if nat_eq k (length xs) then Some x else slice_get xs k)
slice_get_push [] x k = grind arith
slice_get_push (y ∷ ys) x k = grind (arith, slice_get_push ys x)

-- what holds at one place, and at each other
pub there : (P : ℕ → Bool → Type 0) (n at : ℕ) → P at true → P n false → P n (nat_eq n at)
there P n at here other = (elim (nat_eq n at) as (λ b. nat_eq n at ≡ b → P n b) [
  | true ↦ λ e. subst (λ k. P k true) (sym (eqb-true n at e)) here
  | false ↦ λ e. other
]) refl
