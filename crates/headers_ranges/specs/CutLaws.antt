-- Where a text is cut at the first place of a byte, and where a joined text is cut.
use Rattle.std.proofs.Common.{◌≡◌, ℕ, ◌+◌, ◌<◌, Bool, true, false, not, ◌==◌, nat_lt, ◌≤◌, List, [], ◌∷◌, ◌++◌, length}
use Rattle.std.proofs.Common.{take, drop, get_or, Option, Some, None, MatchOption, refl, eq-eqb, sym, ◌∙◌, ap, arith}
use Rattle.std.{proofs.Common.{inl, inr}, specs.List.{list_all, list_any, before_first, after_first, position_or_len}}
use Rattle.std.proofs.lemmas.Bool.{cases_Bool, ltb-true, lt-ltb, ltb-false, not-true}
use Rattle.std.{proofs.lemmas.Bool.Decides.nat_tests, proofs.lemmas.List.Sums.prefix_len-le-length}
use Rattle.std.proofs.lemmas.List.Sums.{position_or_len_is, AllPass-from_list_all}
use Rattle.std.{proofs.lemmas.List.{get_or_append_left, length-append}, proofs.Math.Seq.take-append_seam}
use Rattle.std.proofs.Math.Seq.{drop-append-add, get_or-append_seam}
use Rattle.headers_ranges.specs.Cut.{cut}

-- a byte is there if the first place is not the end
any_before_end : (p : ℕ → Bool) (s : List ℕ) → list_any p s ≡ nat_lt (position_or_len p s) (length s)
any_before_end p [] = refl
any_before_end p (b ∷ s) =
    let later = any_before_end p s in
    elim (cases_Bool (p b)) [
      | inl y ↦ rw y (grind (arith, nat_tests))
      | inr n ↦ rw n (grind (arith, nat_tests))
    ]

-- what a search for a byte finds
abbrev pub FindsCut : ℕ → List ℕ → Option (List ℕ × List ℕ) → Type 0
FindsCut c s r =
    MatchOption r (position_or_len (λ b. b == c) s ≡ length s)
    (λ x. (position_or_len (λ b. b == c) s < length s)
    × (x.0 ≡ before_first (λ b. b == c) s) × (x.1 ≡ after_first (λ b. b == c) s))

pub cut_is : (c : ℕ) (s : List ℕ) (r : Option (List ℕ × List ℕ)) → FindsCut c s r → r ≡ cut c s
cut_is c s None e =
    let none : list_any (λ b. b == c) s ≡ false = any_before_end (λ b. b == c) s ∙ grind (arith, nat_tests) in
    rw none refl
cut_is c s (Some x) h =
    let some : list_any (λ b. b == c) s ≡ true = any_before_end (λ b. b == c) s ∙ lt-ltb _ _ h.0 in
    rw (some, ← h.1, ← h.2) refl

pub cut_finds : (c : ℕ) (s : List ℕ) (r : Option (List ℕ × List ℕ)) → r ≡ cut c s → FindsCut c s r
cut_finds c s r e =
    elim (cases_Bool (list_any (λ b. b == c) s)) [
      | inl y ↦
          let here : position_or_len (λ b. b == c) s < length s =
          ltb-true _ _ (sym (any_before_end (λ b. b == c) s) ∙ y) in
          rw (e, y) (here, refl, refl)
      | inr n ↦
          let low = prefix_len-le-length (λ b. not (b == c)) s in
          let high : length s ≤ position_or_len (λ b. b == c) s =
          ltb-false _ _ (sym (any_before_end (λ b. b == c) s) ∙ n) in
          rw (e, n) (omega arith)
    ]

-- no byte of s is c
abbrev pub Lacks : ℕ → List ℕ → Type 0
Lacks c s = list_all (λ b. not (b == c)) s ≡ true

other_at : (c : ℕ) (s : List ℕ) → Lacks c s → (k : ℕ) → k < length s → (get_or s k 0 == c) ≡ false
other_at c s lacks k l = not-true _ (AllPass-from_list_all (λ b. not (b == c)) s lacks k 0 l)

-- a text that was joined at a byte is cut there, if the byte isn't earlier in it
pub cut_joined : (c : ℕ) (xs ys : List ℕ) → Lacks c xs → cut c (xs ++ c ∷ ys) ≡ Some (xs, ys)
cut_joined c xs ys lacks =
    let s = xs ++ c ∷ ys in
    let long : length s ≡ length xs + length (c ∷ ys) = length-append xs (c ∷ ys) in
    let place : position_or_len (λ b. b == c) s ≡ length xs =
    position_or_len_is (λ b. b == c) s (length xs) 0 (omega arith)
    (λ k l. ap (λ b. b == c) (get_or_append_left xs (c ∷ ys) 0 k l) ∙ other_at c xs lacks k l)
    (λ l. ap (λ b. b == c) (get_or-append_seam xs c ys 0) ∙ eq-eqb c c refl) in
    let here : position_or_len (λ b. b == c) s < length s = omega (arith, long) in
    sym (cut_is c s (Some (xs, ys)) (
      here,
      sym (ap (λ n. take n s) place
          ∙ take-append_seam xs (c ∷ ys)),
      sym (ap (λ n. drop (n + 1) s) place ∙ drop-append-add xs (c ∷ ys) 1),
    ))
