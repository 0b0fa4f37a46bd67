-- Tests of the elements that a filter keeps.
use Rattle.std.{proofs.Common.{◌≡◌, ◌&&◌, ◌||◌, Bool, List, [], ◌∷◌, ap, inl, inr, refl}, specs.Prelude.filter}
use Rattle.std.{specs.List.list_any, proofs.lemmas.Bool.cases_Bool}

module _ {X : Type 0} (keeps test : X → Bool) where
  -- an element that is kept passes exactly if one is kept and passes
  pub list_any-filter : (xs : List X) → list_any (λ x. keeps x && test x) xs ≡ list_any test (filter keeps xs)
  list_any-filter [] = refl
  list_any-filter (x ∷ xs) = elim (cases_Bool (keeps x)) [
    | inl kept ↦ rw kept (ap (λ (b : Bool). test x || b) (list_any-filter xs))
    | inr left ↦ rw left (list_any-filter xs)
  ]
