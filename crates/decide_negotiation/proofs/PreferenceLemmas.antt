-- The order of what elements say, and the strongest of a list.
use Rattle.std.proofs.Common.{◌≡◌, zero, suc, Bool, true, false, List, [], ◌∷◌, Option, Some, None, inr, refl, arith}
use Rattle.std.proofs.lemmas.Bool.{and_cases, and_parts, cases_order, eqb-false, eqb-true, ltb-false, ltb-true}
use Rattle.std.proofs.lemmas.{Bool.{or_cases, or_parts}, List.Elements.{All-cons, All-head, All-tail}}
use Rattle.{std.specs.{Prelude.{Contains, filter_map, nat_lt, if◌then◌else◌}, List.fold}, rfc_fields.specs.Scan.Member}
use Rattle.decide_negotiation.specs.Preferences.{AtMost, IsBest, IsStrongest, is_below, stronger, strongest}
use Rattle.decide_negotiation.specs.{Qualities.preferred, declared.preference.Preference.Preference}

-- ---- the order

at_most_itself : (a : Preference) → AtMost a a
at_most_itself a = inr (refl, inr (refl, omega arith))

at_most_along : (a b c : Preference) → AtMost a b → AtMost b c → AtMost a c
at_most_along a b c = grind (arith)

is_below-true : (a b : Preference) → is_below a b ≡ true → AtMost a b
unfolding is_below
is_below-true a b e = grind (arith, or_cases, nat_lt, ltb-true, and_parts, eqb-true)

is_below-false : (a b : Preference) → is_below a b ≡ false → AtMost b a
unfolding is_below
is_below-false a b e = grind (arith, nat_lt, or_parts, ltb-false, cases_order, and_cases, eqb-false)

-- two that are at most each other have one quality
same_quality : (a b : Preference) → AtMost a b → AtMost b a → a.quality ≡ b.quality
same_quality a b h k = grind (arith)

-- ---- the strongest

-- one more element of a list that has one
Contains-later : (x y : Preference) (xs : List Preference) (p : Preference) → Contains (y ∷ xs) p
    → Contains (x ∷ y ∷ xs) p
Contains-later x y xs p h = (suc h.0, omega (arith, h.1), h.2)

Contains-beside : (x y : Preference) (xs : List Preference) (p : Preference) → Contains (x ∷ xs) p
    → Contains (x ∷ y ∷ xs) p
Contains-beside x y xs p (zero, low, is) = (0, omega arith, is)
Contains-beside x y xs p (suc k, low, is) = (suc (suc k), omega (arith, low), is)

-- what is the strongest once the weaker of the first two is left out, is the strongest
widen : (x y : Preference) (xs : List Preference) (p : Preference)
    → IsStrongest ((if is_below x y then y else x) ∷ xs) p → IsStrongest (x ∷ y ∷ xs) p
widen x y xs p h = by (is_below x y) refl h
  where
    by : (below : Bool) → is_below x y ≡ below → IsStrongest ((if below then y else x) ∷ xs) p
        → IsStrongest (x ∷ y ∷ xs) p
    by true e h =
        let second : AtMost y p = All-head (λ (other : Preference). AtMost other p) y xs h.greatest in
        record {
          among = Contains-later x y xs p h.among;
          greatest = All-cons (λ (other : Preference). AtMost other p) x (y ∷ xs)
              (at_most_along x y p (is_below-true x y e) second) h.greatest;
        }
    by false e h =
        let first : AtMost x p = All-head (λ (other : Preference). AtMost other p) x xs h.greatest in
        record {
          among = Contains-beside x y xs p h.among;
          greatest = All-cons (λ (other : Preference). AtMost other p) x (y ∷ xs) first
              (All-cons (λ (other : Preference). AtMost other p) y xs (at_most_along y x p (is_below-false x y e) first)
              (All-tail (λ (other : Preference). AtMost other p) x xs h.greatest));
        }

best_of_more : (x y : Preference) (xs : List Preference) (best : Option Preference)
    → IsBest ((if is_below x y then y else x) ∷ xs) best → IsBest (x ∷ y ∷ xs) best
best_of_more x y xs None h = grind (arith)
best_of_more x y xs (Some p) h = widen x y xs p h

strongest_fold : (x : Preference) (xs : List Preference) → IsBest (x ∷ xs) (fold stronger (Some x) xs)
unfolding stronger
strongest_fold x [] = grind (arith, at_most_itself)
strongest_fold x (y ∷ xs) = best_of_more x y xs _ (strongest_fold (if is_below x y then y else x) xs)

-- what is kept of a list is its strongest
best_of_fold : (said : List Preference) → IsBest said (fold stronger None said)
unfolding stronger
best_of_fold [] = refl
best_of_fold (x ∷ xs) = strongest_fold x xs

-- so what decides is the strongest of what the members say
pub strongest_is_best : (says : Member → Option Preference) (field : List Member)
    → IsBest (filter_map says field) (strongest says field)
unfolding strongest
strongest_is_best says field = best_of_fold (filter_map says field)

none_among : (said : List Preference) (p : Preference) → IsStrongest said p → said ≡ [] → ⊥
none_among said p h e = grind (arith)

-- and two that are the strongest of a list give one quality
pub one_best : (said : List Preference) (a b : Option Preference) → IsBest said a → IsBest said b
    → preferred a ≡ preferred b
one_best said None None h k = refl
one_best said None (Some q) h k = absurd (none_among said q k h)
one_best said (Some p) None h k = absurd (none_among said p h k)
one_best said (Some p) (Some q) h k = grind (arith, same_quality)
