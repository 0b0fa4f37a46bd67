-- What holds of the first rule that is broken, in any order of rules.
use Rattle.std.proofs.Common.{◌≡◌, ◌⊎◌, ℕ, zero, suc, ◌+◌, ◌≤◌, inl, inr, sym, ◌∙◌, ap, subst, arith}
use Rattle.std.proofs.lemmas.Bool.{cases_order}
use Rattle.decide_handshake.{specs.Rules.{IsFirstBroken, KeepsBelow}, proofs.DecisionLemmas.{Decided, cases_Decided}}

module _ {F : Type 0} (number : F → ℕ) (at : ℕ → F) (back : (f : F) → at (number f) ≡ f) (rule : F → Type 0) where
  -- one more rule is kept
  keeps_next : (n : ℕ) → KeepsBelow number rule n → rule (at n) → KeepsBelow number rule (n + 1)
  keeps_next n before kept f low = elim (cases_order (number f) n) [
    | inl same ↦ subst rule (ap at (sym same) ∙ back f) kept
    | inr other ↦
        elim other [
          | inl lower ↦ before f lower
          | inr higher ↦ absurd (omega (arith, low, higher))
        ]
  ]

  -- the rules before a number are kept, each by itself
  abbrev pub KeptTo : ℕ → Type 0
  KeptTo zero = Unit {0}
  KeptTo (suc n) = KeptTo n × rule (at n)

  pub kept_below : (n : ℕ) → KeptTo n → KeepsBelow number rule n
  kept_below zero kept f low = absurd (omega (arith, low))
  kept_below (suc n) kept f low = keeps_next n (kept_below n kept.0) kept.1 f (omega (arith, low))

  pub first_broken : (f : F) → ¬ (rule f) → KeptTo (number f) → IsFirstBroken number rule f
  first_broken f broken kept = record { broken = broken; before = kept_below (number f) kept }

  -- one rule at most is the first that is broken
  pub one_first : (f g : F) → IsFirstBroken number rule f → IsFirstBroken number rule g → f ≡ g
  one_first f g h k = elim (cases_order (number f) (number g)) [
    | inl same ↦ sym (back f) ∙ (ap at same ∙ back g)
    | inr other ↦
        elim other [
          | inl lower ↦ absurd (h.broken (k.before f lower))
          | inr higher ↦ absurd (k.broken (h.before g higher))
        ]
  ]

  -- where each rule has a test, those below a number are kept, or one is the first that is broken
  pub some_first : ((n : ℕ) → number (at n) ≤ n) → ((f : F) → Decided (rule f)) → (n : ℕ)
      → KeepsBelow number rule n ⊎ ((f : F) × IsFirstBroken number rule f)
  some_first low decide zero = inl (λ f small. absurd (omega (arith, small)))
  some_first low decide (suc n) = elim (some_first low decide n) [
    | inr first ↦ inr first
    | inl before ↦
        elim (cases_Decided (decide (at n))) [
          | inl kept ↦ inl (λ f small. keeps_next n before kept f (omega (arith, small)))
          | inr broken ↦
              inr (
                at n,
                record {
                  broken = broken;
                  before = λ f small. let last = low n in before f (omega (arith, small, last));
                },
              )
        ]
  ]
