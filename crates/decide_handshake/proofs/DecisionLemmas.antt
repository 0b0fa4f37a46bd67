-- Facts with a test, which is true exactly if the fact holds. Each rule of a handshake is one.
use Rattle.std.proofs.Common.{◌≡◌, ◌⊎◌, ℕ, zero, suc, ◌-◌, ◌<◌, Bool, true, false, ◌||◌, ◌&&◌, List, [], ◌∷◌, ◌++◌, All}
use Rattle.std.proofs.Common.{Decides, IsTrue, Option, Some, None, inl, inr, refl, sym, ap, ◌∙◌, subst, arith, eqb}
use Rattle.std.proofs.{Common.{length, take, drop, ltb}, lemmas.Bool.Decides.{Decides-and, Decides-below_or}}
use Rattle.std.proofs.lemmas.Bool.Decides.{Decides-by_and, Decides-eqb, Decides-like, Decides-ltb, Decides-or}
use Rattle.std.{proofs.lemmas.Slice.Eq.bytes_eq-Decides, specs.Prelude.{IsSomeAnd, bytes_eq, slice_index}}
use Rattle.{std.specs.List.list_all, websocket.specs.Handshake.{IsValidKey, base64}}

-- the fact has a test
abbrev pub Decided : Type 0 → Type 0
Decided P = (test : Bool) × Decides test P

pub cases_Decided : {P : Type 0} → Decided P → P ⊎ ¬ P
cases_Decided (true, d) = inl (d.0 refl)
cases_Decided (false, d) = inr (λ p. let e = d.1 p in cc e)

pub alike : {P Q : Type 0} → Decided P → (P → Q) → (Q → P) → Decided Q
alike d to from = (d.0, Decides-like d.0 to from d.1)

pub both : {P Q : Type 0} → Decided P → Decided Q → Decided (P × Q)
both d e = (d.0 && e.0, Decides-and d.0 e.0 d.1 e.1)

pub either : {P Q : Type 0} → Decided P → Decided Q → Decided (P ⊎ Q)
either d e = (d.0 || e.0, Decides-or d.0 e.0 d.1 e.1)

pub always : {P : Type 0} → P → Decided P
always p = (true, (λ _. p, λ _. refl))

pub never : {P : Type 0} → ¬ P → Decided P
never fails = (false, (λ e. absurd (cc e), λ p. absurd (fails p)))

pub by_test : (b : Bool) → Decided (IsTrue b)
by_test b = (b, (λ e. e, λ e. e))

pub below : (m n : ℕ) → Decided (m < n)
below m n = (ltb m n, Decides-ltb m n)

pub same_number : (m n : ℕ) → Decided (m ≡ n)
same_number m n = (eqb m n, Decides-eqb m n)

pub same_bytes : (a b : List ℕ) → Decided (a ≡ b)
same_bytes a b = (bytes_eq a b, bytes_eq-Decides a b)

pub is_empty : {A : Type 0} (xs : List A) → Decided (xs ≡ [])
is_empty [] = always refl
is_empty (x ∷ xs) = never (λ e. cc e)

pub some_with : {A : Type 0} (P : A → Type 0) → ((x : A) → Decided (P x)) → (o : Option A) → Decided (IsSomeAnd o P)
some_with P d None = never (λ h. h)
some_with P d (Some x) = d x

pub is_some_of : (o : Option (List ℕ)) (bytes : List ℕ) → Decided (o ≡ Some bytes)
is_some_of None bytes = never (λ e. cc e)
is_some_of (Some other) bytes = alike (same_bytes other bytes) (λ e. ap (λ (x : List ℕ). Some x) e) (λ e. cc e)

module _ {A : Type 0} (P : A → Type 0) (d : (x : A) → Decided (P x)) where
  abbrev test : A → Bool
  test x = (d x).0

  pub each : (xs : List A) → Decided (All P xs)
  each xs = (list_all test xs, Decides-by_and test P (list_all test) (λ x. (d x).1) refl (λ _ _. refl) xs)

-- ---- the base64 of sixteen bytes

-- some number below n passes
any_below : (ℕ → Bool) → ℕ → Bool
any_below p zero = false
any_below p (suc n) = p n || any_below p n

some_below : (P : ℕ → Type 0) → ((k : ℕ) → Decided (P k)) → (n : ℕ) → Decided ((k : ℕ) × (k < n) × P k)
unfolding any_below
some_below P d n =
    let test = λ (k : ℕ). (d k).0 in
    (any_below test n, Decides-below_or test P (any_below test) (λ k. (d k).1) refl (λ _. refl) n)

abbrev AreBytes : List ℕ → Type 0
AreBytes bytes = (i : ℕ) → slice_index bytes i < 256

abbrev HasBytes : ℕ → (List ℕ → Type 0) → Type 0
HasBytes n P = (bytes : List ℕ) × (length bytes ≡ n) × AreBytes bytes × P bytes

no_bytes : (P : List ℕ → Type 0) → HasBytes 0 P → P []
no_bytes P ([], len, small, p) = p
no_bytes P (b ∷ bytes, len, small, p) = absurd (omega (arith, len))

cons_small : (b : ℕ) (bytes : List ℕ) → b < 256 → AreBytes bytes → AreBytes (b ∷ bytes)
cons_small b bytes low small zero = low
cons_small b bytes low small (suc i) = small i

first_of_bytes : (n : ℕ) (P : List ℕ → Type 0) → HasBytes (suc n) P
    → (b : ℕ) × (b < 256) × HasBytes n (λ bytes. P (b ∷ bytes))
first_of_bytes n P ([], len, small, p) = absurd (omega (arith, len))
first_of_bytes n P (b ∷ bytes, len, small, p) = (b, small 0, (bytes, omega (arith, len), λ i. small (suc i), p))

-- some bytes, so many, have a property that has a test
some_bytes : (n : ℕ) (P : List ℕ → Type 0) → ((bytes : List ℕ) → Decided (P bytes)) → Decided (HasBytes n P)
some_bytes zero P d = alike (d []) (λ p. ([], refl, λ i. omega arith, p)) (no_bytes P)
some_bytes (suc n) P d = alike (some_below (λ b. HasBytes n (λ bytes. P (b ∷ bytes)))
    (λ b. some_bytes n (λ bytes. P (b ∷ bytes)) (λ bytes. d (b ∷ bytes))) 256)
    (λ h. (h.0 ∷ h.2.0, omega (arith, h.2.1), cons_small h.0 h.2.0 h.1 h.2.2, h.2.3)) (first_of_bytes n P)

pub valid_key : (key : List ℕ) → Decided (IsValidKey key)
valid_key key = both (same_number (length key) 24)
    (some_bytes 16 (λ nonce. key ≡ base64 nonce) (λ nonce. same_bytes key (base64 nonce)))
