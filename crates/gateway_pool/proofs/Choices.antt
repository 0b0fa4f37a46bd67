-- The first of the least, among the first so many.
use Rattle.std.proofs.Common.{◌≡◌, ◌⊎◌, ◌+◌, ◌<◌, ◌≤◌, ℕ, Bool, true, false, Option, Some, None, arith, inl, inr, refl}
use Rattle.std.proofs.Common.{subst, sym}
use Rattle.std.specs.Prelude.{IsTrue, MatchOption}
use Rattle.gateway_pool.specs.Choices.{IsFirst, comes_first}

abbrev pub IsFirstBelow : (ℕ → Bool) → (ℕ → ℕ) → (end : ℕ) → Option ℕ → (least : ℕ) → Type 0
IsFirstBelow may rank end None least = (o : ℕ) → o < end → may o ≡ false
IsFirstBelow may rank end (Some best) least = (best < end) × (least ≡ rank best) × IsTrue (may best)
    × ((o : ℕ) → o < end → IsTrue (may o) → (rank best < rank o) ⊎ ((rank best ≡ rank o) × (best ≤ o)))

below_or : (n o : ℕ) → o < n + 1 → (o < n) ⊎ (o ≡ n)
below_or n o lt = grind arith

one-more : (P : ℕ → Type 0) (n o : ℕ) → (o < n → P o) → P n → (o < n) ⊎ (o ≡ n) → P o
one-more P n o before here (inl lt) = before lt
one-more P n o before here (inr is) = subst P (sym is) here

module _ (may : ℕ → Bool) (rank : ℕ → ℕ) (n : ℕ) where
  pub IsFirstBelow-no : (best : Option ℕ) (least : ℕ) → may n ≡ false → IsFirstBelow may rank n best least
      → IsFirstBelow may rank (n + 1) best least
  IsFirstBelow-no None least out all = λ o lt. one-more (λ k. may k ≡ false) n o (all o) out (below_or n o lt)
  IsFirstBelow-no (Some b) least out is = (
    omega (arith, is.0),
    is.1,
    is.2,
    λ o lt fits. one-more
        (λ k. IsTrue (may k) → (rank b < rank k) ⊎ ((rank b ≡ rank k) × (b ≤ k))) n o (is.3 o)
        (λ fits. absurd (grind (arith, out, fits))) (below_or n o lt) fits,
  )

  pub IsFirstBelow-worse : (best : Option ℕ) (least : ℕ) → comes_first best (rank n) least ≡ false
      → IsFirstBelow may rank n best least → IsFirstBelow may rank (n + 1) best least
  IsFirstBelow-worse None least worse is = absurd (grind (arith, worse))
  IsFirstBelow-worse (Some b) least worse is = (
    omega (arith, is.0),
    is.1,
    is.2,
    λ o lt fits. one-more
        (λ k. IsTrue (may k) → (rank b < rank k) ⊎ ((rank b ≡ rank k) × (b ≤ k))) n o (is.3 o)
        (λ fits. grind (arith, worse, is.0, is.1)) (below_or n o lt) fits,
  )

  better-rest : (best : Option ℕ) (least : ℕ) → comes_first best (rank n) least ≡ true
      → IsFirstBelow may rank n best least → (o : ℕ) → o < n → IsTrue (may o)
      → (rank n < rank o) ⊎ ((rank n ≡ rank o) × (n ≤ o))
  better-rest None least better all o lt fits = absurd (grind (arith, all o lt, fits))
  better-rest (Some b) least less is o lt fits = inl (grind (arith, less, is.1, is.3 o lt fits))

  pub IsFirstBelow-better : (best : Option ℕ) (least : ℕ) → IsTrue (may n) → comes_first best (rank n) least ≡ true
      → IsFirstBelow may rank n best least → IsFirstBelow may rank (n + 1) (Some n) (rank n)
  IsFirstBelow-better best least fits better is = (
    omega arith,
    refl,
    fits,
    λ o lt may_o. one-more
        (λ k. IsTrue (may k) → (rank n < rank k) ⊎ ((rank n ≡ rank k) × (n ≤ k))) n o
        (better-rest best least better is o) (λ here. inr (refl, omega arith)) (below_or n o lt) may_o,
  )

pub IsFirst-all : (may : ℕ → Bool) (rank : ℕ → ℕ) (end : ℕ) (best : Option ℕ) (least : ℕ)
    → ((o : ℕ) → IsTrue (may o) → o < end) → IsFirstBelow may rank end best least
    → MatchOption best ((o : ℕ) → may o ≡ false) (IsFirst may rank)
IsFirst-all may rank end None least within all = λ o.
    (elim (may o) as (λ b. may o ≡ b → b ≡ false) [
      | true ↦ λ e. absurd (grind (arith, e, all o (within o e)))
      | false ↦ λ e. refl
    ]) refl
IsFirst-all may rank end (Some b) least within is = (is.2, λ o fits. is.3 o (within o fits) fits)
