-- The field lines that vectors of methods and of names encode to.
use Rattle.std.proofs.{Common.{◌≡◌, ℕ, List, [], ◌∷◌, length, ◌∙◌}, lemmas.List.map-id}
use Rattle.std.specs.{declared.vec.IntoIter.IntoIter, Vec.Iter.{into_iter_items, into_iter_len, into_iter_steps}}
use Rattle.headers.{proofs.RoundTripLemmas.drained, specs.ListItem.{Reading, IsListOf, Lists, ListsValues}}

-- a list that was made of a vector encodes to the vector's elements, joined
moved : (reading : Reading) (given xs : List (List ℕ)) (value line : List ℕ) → IsListOf reading given value
    → given ≡ xs → value ∷ [] ≡ line ∷ [] → IsListOf reading xs line
moved reading given xs value line h e w =
    let same : value ≡ line = cc w in
    rw same at (rw e at h)

pub listed_by : {Z : Type 0} (reading : Reading) (s : IntoIter (List ℕ) Z) (xs : List (List ℕ)) (value line : List ℕ)
    → into_iter_items s ≡ xs → into_iter_len s ≡ length xs → Lists reading into_iter_steps s value
    → value ∷ [] ≡ line ∷ [] → IsListOf reading xs line
listed_by reading s xs value line e l h w = moved reading h.0 xs value line h.2 (drained s xs h.0 e l h.1) w

pub listed_values_by : {Z : Type 0} (reading : Reading) (s : IntoIter (List ℕ) Z) (xs : List (List ℕ))
    (value line : List ℕ) → into_iter_items s ≡ xs → into_iter_len s ≡ length xs
    → ListsValues (λ (bytes : List ℕ). bytes) reading into_iter_steps s value
    → value ∷ [] ≡ line ∷ [] → IsListOf reading xs line
listed_values_by reading s xs value line e l h w = moved _ _ xs _ _ h.2 (map-id h.0 ∙ drained s xs _ e l h.1) w
