-- The targets that field lines name, line by line.
use Rattle.std.proofs.Common.{[], ◌++◌, ◌∙◌, ◌∷◌, ◌≡◌, ap, append_assoc, List, Option, option_to_list, refl, subst, sym}
use Rattle.{headers.specs.Lines.Line, std.proofs.lemmas.List.append-nil, url.specs.Parts.Parts}
use Rattle.cache_store.specs.Named.{AreNamedBy, Names}

module _ (base : Parts) (all : List Line) where
  -- whatever the other lines name, these stand before it
  abbrev pub Continues : List Parts → List Line → Type 0
  Continues named lines = (rest : List Parts) → AreNamedBy base lines rest → AreNamedBy base all (named ++ rest)

  pub continues-next : (named next : List Parts) (these others : List Line) (line : Line) (found : Option Parts)
      → these ≡ line ∷ others → next ≡ named ++ option_to_list found → Continues named these → Names base line found
      → Continues next others
  continues-next named next these others line found split put before names rest are =
      subst (λ l. AreNamedBy base all (l ++ rest)) (sym put) (subst (AreNamedBy base all)
      (sym (append_assoc named (option_to_list found) rest)) (before (option_to_list found ++ rest)
      (subst (λ l. AreNamedBy base l (option_to_list found ++ rest)) (sym split) (found, rest, names, are, refl))))

  pub continues-end : (named : List Parts) (lines : List Line) → lines ≡ [] → Continues named lines
      → AreNamedBy base all named
  continues-end named lines none before =
      subst (AreNamedBy base all) (append-nil named) (before [] (subst (λ l. AreNamedBy base l []) (sym none) refl))

-- the lines of two fields name what each names
pub named-append : (base : Parts) (first second : List Line) (named others : List Parts) → AreNamedBy base first named
    → AreNamedBy base second others → AreNamedBy base (first ++ second) (named ++ others)
named-append base [] second named others none are = subst (λ l. AreNamedBy base second (l ++ others)) (sym none) are
named-append base (line ∷ first) second named others (found, rest, names, left, put) are =
    let appended = ap (λ l. l ++ others) put ∙ append_assoc (option_to_list found) rest others in
    (found, rest ++ others, names, named-append base first second rest others left are, appended)
