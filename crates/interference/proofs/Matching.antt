-- Requests that agree.
use Rattle.std.proofs.{Common.{◌≡◌, ℕ, true, List, [], ◌∷◌, Option, refl, arith}, lemmas.Slice.Eq.bytes_eq-Decides}
use Rattle.interference.specs.Worlds.{Request, Head, same_value, agree, matches}

same_value-is : (x y : Option (List ℕ)) → same_value x y ≡ true → x ≡ y
same_value-is x y same = grind (arith, bytes_eq-Decides)

same_value-refl : (x : Option (List ℕ)) → same_value x x ≡ true
same_value-refl x = grind (arith, bytes_eq-Decides)

-- a request that agrees with another takes its place
agree-first : (vary : List (List ℕ)) (q r s : Request) → agree vary q r ≡ true → agree vary q s ≡ agree vary r s
agree-first [] q r s same = refl
agree-first (n ∷ vary) q r s same = grind (arith, same_value-is (q.fields n) (r.fields n), agree-first vary q r s)

agree-refl : (vary : List (List ℕ)) (q : Request) → agree vary q q ≡ true
agree-refl [] q = refl
agree-refl (n ∷ vary) q = grind (arith, same_value-refl (q.fields n), agree-refl vary q)

module _ (head : Head) (q r : Request) (same : matches head q r ≡ true) where
  pub matches-target : q.target ≡ r.target
  matches-target = grind arith

  pub matches-first : (s : Request) → matches head q s ≡ matches head r s
  matches-first s = grind (arith, agree-first)

  pub matches-sym : matches head r q ≡ true
  matches-sym = grind (arith, agree-first, agree-refl)
