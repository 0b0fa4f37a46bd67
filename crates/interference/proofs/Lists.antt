-- Places in lists, and stores.
use Rattle.std.{proofs.Common.{◌≡◌, ℕ, length, List, [], ◌∷◌, ◌++◌, nat_eq, Option, Some, None, arith}, specs.Prelude.⊤}
use Rattle.{std.specs.Prelude.if◌then◌else◌, interference.specs.{Events.{nth, with_number, without}, Worlds.Stored}}

-- at each place stands what did, or what was added
pub nth_push : {X : Type 0} (d : X) (xs : List X) (x : X) (k : ℕ)
    → nth d (xs ++ x ∷ []) k ≡ (if nat_eq k (length xs) then x else nth d xs k)
nth_push d [] x k = grind arith
nth_push d (y ∷ ys) x k = grind (arith, nth_push d ys x)

-- what holds of something, if there is something
abbrev pub IfFound : {X : Type 0} → (X → Type 0) → Option X → Type 0
IfFound P None = ⊤
IfFound P (Some x) = P x

pub number_without : (k j : ℕ) (xs : List Stored)
    → with_number k (without j xs) ≡ (if nat_eq k j then None else with_number k xs)
number_without k j [] = grind arith
number_without k j (x ∷ xs) = grind (arith, number_without k j xs)
