-- What holds of each element of a list, how many pass a test, and the first that does.
use Rattle.std.proofs.Common.{◌≡◌, ◌⊎◌, ◌+◌, ◌≤◌, ◌∷◌, ◌++◌, ℕ, Bool, true, false, List, [], map, refl, ap, subst, sym}
use Rattle.std.proofs.Common.{◌∙◌}
use Rattle.std.proofs.Common.{arith, inl, Some, None}
use Rattle.std.specs.Prelude.{⊤, ◌&&◌, ◌<◌, ◌||◌, nat_lt, cond, count_by, filter, find, is_some}
use Rattle.std.proofs.lemmas.List.Sums.{sum_by-cons, sum_by_push}

abbrev pub Each : {X : Type 0} → (X → Type 0) → List X → Type 0
Each P [] = ⊤
Each P (x ∷ xs) = P x × Each P xs

pub Each-map : {X : Type 0} {P : X → Type 0} (Q : X → Type 0) (f : X → X) → ((x : X) → P x → Q (f x)) → (xs : List X)
    → Each P xs → Each Q (map f xs)
Each-map Q f step [] all = tt
Each-map Q f step (x ∷ xs) all = (step x all.0, Each-map Q f step xs all.1)

pub Each-all : {X : Type 0} {P Q : X → Type 0} → ((x : X) → P x → Q x) → (xs : List X) → Each P xs → Each Q xs
Each-all step [] all = tt
Each-all step (x ∷ xs) all = (step x all.0, Each-all step xs all.1)

pub Each-any : {X : Type 0} {Q : X → Type 0} → ((x : X) → Q x) → (xs : List X) → Each Q xs
Each-any holds [] = tt
Each-any holds (x ∷ xs) = (holds x, Each-any holds xs)

pub Each-push : {X : Type 0} (Q : X → Type 0) (xs : List X) (x : X) → Each Q xs → Q x → Each Q (xs ++ x ∷ [])
Each-push Q [] x all one = (one, tt)
Each-push Q (y ∷ xs) x all one = (all.0, Each-push Q xs x all.1 one)

pub Each-filter : {X : Type 0} {P Q : X → Type 0} (test : X → Bool) → ((x : X) → test x ≡ true → P x → Q x)
    → (xs : List X) → Each P xs → Each Q (filter test xs)
Each-filter test step [] all = tt
Each-filter {Q = Q} test step (x ∷ xs) all =
    (elim (test x) as (λ b. test x ≡ b → Each Q (cond b (x ∷ filter test xs) (filter test xs))) [
      | true ↦ λ e. (step x e all.0, Each-filter test step xs all.1)
      | false ↦ λ e. Each-filter test step xs all.1
    ]) refl

-- ---- how many

bit-le : (a b c : Bool) → (a ≡ true → (b ≡ true) ⊎ (c ≡ true)) → cond a 1 0 ≤ cond b 1 0 + cond c 1 0
bit-le true true c h = grind arith
bit-le true false true h = grind arith
bit-le true false false h = grind (arith, h refl)
bit-le false b c h = omega arith

pub bit-zero : (b : Bool) → b ≡ false → cond b 1 0 ≤ 0
bit-zero true e = absurd (grind (arith, e))
bit-zero false e = omega arith

pub bit-one : (b : Bool) → cond b 1 0 ≤ 1
bit-one true = omega arith
bit-one false = omega arith

pub and-false : (b : Bool) → (b && false) ≡ false
and-false true = refl
and-false false = refl

pub count_by-map-le : {X : Type 0} (p q : X → Bool) (f : X → X) (xs : List X)
    → Each (λ x. p (f x) ≡ true → (p x ≡ true) ⊎ (q x ≡ true)) xs
    → count_by p (map f xs) ≤ count_by p xs + count_by q xs
count_by-map-le p q f [] all = omega arith
count_by-map-le p q f (x ∷ xs) all =
    omega (
      arith,
      sum_by-cons (λ x. cond (p x) 1 0) (f x) (map f xs),
      sum_by-cons (λ x. cond (p x) 1 0) x xs,
      sum_by-cons (λ x. cond (q x) 1 0) x xs,
      bit-le (p (f x)) (p x) (q x) all.0,
      count_by-map-le p q f xs all.1,
    )

pub count_by-none : {X : Type 0} (p : X → Bool) (xs : List X) → Each (λ x. p x ≡ false) xs → count_by p xs ≡ 0
count_by-none p [] all = refl
count_by-none p (x ∷ xs) all =
    omega (arith, bit-zero (p x) all.0, sum_by-cons (λ x. cond (p x) 1 0) x xs, count_by-none p xs all.1)

pub count_by-fewer : {X : Type 0} (p : X → Bool) (f : X → X) (xs : List X) → Each (λ x. p (f x) ≡ true → p x ≡ true) xs
    → count_by p (map f xs) ≤ count_by p xs
count_by-fewer p f xs all =
    omega (
      arith,
      count_by-map-le p (λ x. false) f xs (Each-all (λ x h e. inl (h e)) xs all),
      count_by-none (λ x. false) xs (Each-any (λ x. refl) xs),
    )

pub count_by-filter-le : {X : Type 0} (p q : X → Bool) (xs : List X) → count_by p (filter q xs) ≤ count_by p xs
count_by-filter-le p q [] = omega arith
count_by-filter-le p q (x ∷ xs) =
    elim (q x) as (λ b. count_by p (cond b (x ∷ filter q xs) (filter q xs)) ≤ count_by p (x ∷ xs)) [
      | true ↦ (let both : count_by p (x ∷ filter q xs) ≤ count_by p (x ∷ xs) = omega (
        arith,
        sum_by-cons (λ x. cond (p x) 1 0) x xs,
        sum_by-cons (λ x. cond (p x) 1 0) x (filter q xs),
        count_by-filter-le p q xs,
      ) in both)
      | false ↦ (let less : count_by p (filter q xs) ≤ count_by p (x ∷ xs) = omega (
        arith,
        sum_by-cons (λ x. cond (p x) 1 0) x xs,
        count_by-filter-le p q xs,
      ) in less)
    ]

pub count_by-push : {X : Type 0} (p : X → Bool) (xs : List X) (x : X)
    → count_by p (xs ++ x ∷ []) ≡ count_by p xs + cond (p x) 1 0
count_by-push p xs x = sum_by_push (λ x. cond (p x) 1 0) xs x

-- ---- the first

pub Each-find : {X : Type 0} (P : X → Type 0) (p : X → Bool) (xs : List X) → Each P xs → (x : X) → find p xs ≡ Some x
    → P x × (p x ≡ true)
Each-find P p [] all x e = absurd (grind (arith, e))
Each-find P p (y ∷ xs) all x e =
    (elim (p y) as (λ b. p y ≡ b → cond b (Some y) (find p xs) ≡ Some x → P x × (p x ≡ true)) [
      | true ↦ λ is s. (let same : y ≡ x = grind (arith, s) in (subst P same all.0, subst (λ z. p z ≡ true) same is))
      | false ↦ λ is s. Each-find P p xs all.1 x s
    ]) refl e

pub find-push : {X : Type 0} (p : X → Bool) (xs : List X) (x : X)
    → is_some (find p (xs ++ x ∷ [])) ≡ (is_some (find p xs) || p x)
find-push p [] x = elim (p x) as (λ b. is_some (cond b (Some x) None) ≡ (false || b)) [ true ↦ refl | false ↦ refl ]
find-push p (y ∷ xs) x =
    elim (p y) as (λ b. is_some (cond b (Some y) (find p (xs ++ x ∷ [])))
    ≡ (is_some (cond b (Some y) (find p xs)) || p x)) [
      | true ↦ refl
      | false ↦ find-push p xs x
    ]

pub find-filter_none : {X : Type 0} (p q : X → Bool) → ((x : X) → q x ≡ true → p x ≡ false) → (xs : List X)
    → is_some (find p (filter q xs)) ≡ false
find-filter_none p q h [] = refl
find-filter_none p q h (x ∷ xs) =
    (elim (q x) as (λ b. q x ≡ b → is_some (find p (cond b (x ∷ filter q xs) (filter q xs))) ≡ false) [
      | true ↦ λ e. ap (λ b. is_some (cond b (Some x) (find p (filter q xs)))) (h x e) ∙ find-filter_none p q h xs
      | false ↦ λ e. find-filter_none p q h xs
    ]) refl

pub find-filter_same : {X : Type 0} (p q : X → Bool) → ((x : X) → q x ≡ false → p x ≡ false) → (xs : List X)
    → is_some (find p (filter q xs)) ≡ is_some (find p xs)
find-filter_same p q h [] = refl
find-filter_same p q h (x ∷ xs) =
    (elim (q x) as (λ b. q x ≡ b → is_some (find p (cond b (x ∷ filter q xs) (filter q xs)))
    ≡ is_some (find p (x ∷ xs))) [
      | true ↦ λ e. elim (p x) as (λ b. is_some (cond b (Some x) (find p (filter q xs)))
          ≡ is_some (cond b (Some x) (find p xs))) [
            | true ↦ refl
            | false ↦ find-filter_same p q h xs
          ]
      | false ↦ λ e. find-filter_same p q h xs ∙ sym (ap (λ b. is_some (cond b (Some x) (find p xs))) (h x e))
    ]) refl

pub room : (a b : Bool) (x y : ℕ) → (a && (b && nat_lt x y)) ≡ true → x < y
room true true x y e = grind (arith, e)
room true false x y e = absurd (grind (arith, e))
room false b x y e = absurd (grind (arith, e))
