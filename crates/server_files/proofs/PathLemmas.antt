-- The names of a path, and the folder whose index it names.
use Rattle.std.proofs.Common.{◌≡◌, ℕ, Bor, List, [], ◌∷◌, ◌++◌, Option, Some, None, true, false, sym, ap, ◌∙◌}
use Rattle.std.{proofs.lemmas.{Iterator.YieldsList, List.append_cancel_right}, specs.Prelude.{codes, MatchOption}}
use Rattle.{std.specs.Prelude.option_map, server_files.specs.Path.{IsFolderOf, names_folder}}

module _ {S A B : Type 0} (steps : S → Option A → S → Type 0) (v : A → B) (s t : S) where
  -- an item that is yielded first is the first of the list, and the others follow
  pub first_yielded : (all : List B) (x : A) → steps s (Some x) t → YieldsList steps v s all
      → (rest : List B) × (all ≡ v x ∷ rest) × YieldsList steps v t rest
  first_yielded [] x step yields = absurd (yields.runs x t step)
  first_yielded (first ∷ rest) x step yields =
      let next = yields.runs.1 x t step in
      (rest, ap (λ (y : B). y ∷ rest) (sym next.0), record { runs = next.1 })

-- the folder whose index a path names, where it ends in the name of an index
pub folder_from : (path folder : List ℕ) → path ≡ folder ++ codes "index.html" → (named : Option (Bor (List ℕ)))
    → MatchOption named (names_folder folder ≡ false)
    (λ (it : Bor (List ℕ)). (names_folder folder ≡ true) × (it.now ≡ folder))
    → IsFolderOf path (option_map (λ (it : Bor (List ℕ)). it.now) named)
folder_from path folder is None none = λ other index.
    let same : other ≡ folder = append_cancel_right other folder (codes "index.html") (sym index.1 ∙ is) in
    let yes : names_folder folder ≡ true = ap names_folder (sym same) ∙ index.0 in absurd (cc (none, yes))
folder_from path folder is (Some it) h = (
  ap names_folder h.1 ∙ h.0,
  is ∙ ap (λ (f : List ℕ). f ++ codes "index.html") (sym h.1),
)
