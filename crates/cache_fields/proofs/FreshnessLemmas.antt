-- What follows from the rows of `HasLifetime` and `HasHeuristic`.
use Rattle.std.proofs.Common.{◌≡◌, ℕ, ◌-◌, ◌/◌, Option, Some, None, MatchOption, refl, ap, inl, inr, codes}
use Rattle.{headers_map.specs.LineMap.LineMap, cache_fields.specs.{Directives.directed, Fields.{capped, date_in}}}
use Rattle.cache_fields.specs.{Fields.dated, Freshness.{HasHeuristic, HasLifetime, StatesAge, StatesNoAge}}
use Rattle.cache_fields.specs.declared.{directives.Directives.Directives, kind.Kind.Kind}

stated_once : (kind : Kind) (d : Directives) (n m : ℕ) → StatesAge kind d n → StatesAge kind d m → n ≡ m
stated_once kind d n m (inl h) (inl k) = cc (h, k)
stated_once kind d n m (inl h) (inr k) = absurd (cc (h, k.0))
stated_once kind d n m (inr h) (inl k) = absurd (cc (h.0, k))
stated_once kind d n m (inr h) (inr k) = cc (h.1, k.1)

stated_or_not : (kind : Kind) (d : Directives) (n : ℕ) → StatesAge kind d n → ¬ (StatesNoAge kind d)
stated_or_not kind d n (inl h) k = absurd (cc (h, k.0))
stated_or_not kind d n (inr h) k = absurd (cc (h.1, k.1))

expires_once : (o : Option ℕ) (made n m : ℕ) → MatchOption o (n ≡ 0) (λ expires. n ≡ expires - made)
    → MatchOption o (m ≡ 0) (λ expires. m ≡ expires - made) → n ≡ m
expires_once None made n m h k = cc (h, k)
expires_once (Some expires) made n m h k = cc (h, k)

module _ (kind : Kind) (received : ℕ) (response : LineMap) where
  seconds_once : (n m : ℕ) → HasLifetime kind received response (Some n) → HasLifetime kind received response (Some m)
      → n ≡ m
  seconds_once n m (inl h) (inl k) = stated_once kind (directed response) n m h k
  seconds_once n m (inl h) (inr k) = absurd (stated_or_not kind (directed response) n h k.0)
  seconds_once n m (inr h) (inl k) = absurd (stated_or_not kind (directed response) m k h.0)
  seconds_once n m (inr h) (inr k) =
      expires_once (date_in received (codes "expires") response) (dated received response) n m h.2 k.2

  some_or_none : (n : ℕ) → HasLifetime kind received response (Some n) → ¬ (HasLifetime kind received response None)
  some_or_none n (inl h) k = stated_or_not kind (directed response) n h k.0
  some_or_none n (inr h) k = k.1 h.1

  pub one_lifetime : (a b : Option ℕ) → HasLifetime kind received response a → HasLifetime kind received response b
      → a ≡ b
  one_lifetime None None h k = refl
  one_lifetime None (Some m) h k = absurd (some_or_none m k h)
  one_lifetime (Some n) None h k = absurd (some_or_none n h k)
  one_lifetime (Some n) (Some m) h k = ap (λ (x : ℕ). Some x) (seconds_once n m h k)

module _ (kind : Kind) (status received : ℕ) (response : LineMap) where
  pub one_heuristic : (a b : Option ℕ) → HasHeuristic kind status received response a
      → HasHeuristic kind status received response b → a ≡ b
  one_heuristic None None h k = refl
  one_heuristic None (Some m) h k = let none = h k.0 in let some = k.1.1 in absurd (cc (none, some))
  one_heuristic (Some n) None h k = let none = k h.0 in let some = h.1.1 in absurd (cc (none, some))
  one_heuristic (Some n) (Some m) h k =
      let found : Some h.1.0 ≡ Some k.1.0 = cc (h.1.1, k.1.1) in
      let same : h.1.0 ≡ k.1.0 = cc found in
      let tenth : capped (dated received response - h.1.0) / 10 ≡ capped (dated received response - k.1.0) / 10 =
      ap (λ (modified : ℕ). capped (dated received response - modified) / 10) same in
      let seconds : n ≡ m = cc (h.1.2, k.1.2, tenth) in ap (λ (x : ℕ). Some x) seconds
