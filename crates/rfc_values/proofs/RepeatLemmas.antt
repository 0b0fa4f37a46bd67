-- What is repeated doesn't depend on how often it might be, as long as each step takes a byte.
use Rattle.{rfc_values.specs.Items.{after_all, led, repeated, Step, Step.{Ends, Fails, Goes}}, std.proofs.Common.ap}
use Rattle.std.proofs.Common.{arith, length, List, None, Option, refl, Some, suc, sym, zero, ℕ, ◌<◌, ◌∙◌, ◌≡◌, ◌≤◌}
use Rattle.std.proofs.lemmas.Option.{same_Some}

-- each step that may be followed by one takes a byte
abbrev pub Takes : (List ℕ → Step) → Type 0
Takes step = (s r : List ℕ) → step s ≡ Goes r → length r < length s

-- the last step puts no byte back
abbrev pub Keeps : (List ℕ → Step) → Type 0
Keeps step = (s r : List ℕ) → step s ≡ Ends r → length r ≤ length s

repeated-suc : (step : List ℕ → Step) (n : ℕ) (s : List ℕ)
    → repeated step (suc n) s ≡ led (step s) (λ r. repeated step n r)
unfolding repeated
repeated-suc step n s = refl

led-same : (p : Step) (f g : List ℕ → Option (List ℕ)) → ((r : List ℕ) → p ≡ Goes r → f r ≡ g r) → led p f ≡ led p g
led-same p f g h = grind arith

stable : (step : List ℕ → Step) → Takes step → (n m : ℕ) (s : List ℕ) → length s < n → length s < m
    → repeated step n s ≡ repeated step m s
stable step h zero m s a b = absurd (omega (arith, a))
stable step h (suc n) zero s a b = absurd (omega (arith, b))
stable step h (suc n) (suc m) s a b = repeated-suc step n s
    ∙ led-same (step s) (λ r. repeated step n r) (λ r. repeated step m r)
    (λ r e. stable step h n m r (omega (arith, h s r e, a)) (omega (arith, h s r e, b)))
    ∙ sym (repeated-suc step m s)

pub all-goes : (step : List ℕ → Step) → Takes step → (s r : List ℕ) → step s ≡ Goes r
    → after_all step s ≡ after_all step r
all-goes step h s r e = grind (arith, repeated-suc, stable)

pub all-ends : (step : List ℕ → Step) (s r : List ℕ) → step s ≡ Ends r → after_all step s ≡ Some r
all-ends step s r e = repeated-suc step (length s) s ∙ ap (λ p. led p (λ t. repeated step (length s) t)) e

pub all-fails : (step : List ℕ → Step) (s : List ℕ) → step s ≡ Fails → after_all step s ≡ None
all-fails step s e = repeated-suc step (length s) s ∙ ap (λ p. led p (λ t. repeated step (length s) t)) e

led-shorter : (p : Step) (f : List ℕ → Option (List ℕ)) (n : ℕ) (r : List ℕ) → led p f ≡ Some r
    → ((t : List ℕ) → p ≡ Ends t → length t ≤ n) → ((t : List ℕ) → p ≡ Goes t → f t ≡ Some r → length r ≤ n)
    → length r ≤ n
led-shorter p f n r e ends goes = grind (arith, same_Some)

repeated-shorter : (step : List ℕ → Step) → Takes step → Keeps step → (n : ℕ) (s r : List ℕ)
    → repeated step n s ≡ Some r → length r ≤ length s
unfolding repeated
repeated-shorter step h k zero s r e = absurd (let g : None ≡ Some r = e in cc)
repeated-shorter step h k (suc n) s r e = led-shorter (step s) (λ t. repeated step n t) (length s) r e (λ t g. k s t g)
    (λ t g f. omega (arith, h s t g, repeated-shorter step h k n t r f))

pub all-shorter : (step : List ℕ → Step) → Takes step → Keeps step → (s r : List ℕ) → after_all step s ≡ Some r
    → length r ≤ length s
all-shorter step h k s r e = repeated-shorter step h k (suc (length s)) s r e
