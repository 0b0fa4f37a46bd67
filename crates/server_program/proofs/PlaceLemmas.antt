-- The components of a path, one by one, and whether one of them is `..`.
use Rattle.std.proofs.Common.{◌≡◌, ◌≢◌, ◌↔◌, ◌<◌, ℕ, Bool, List, Option, ap, codes, length, subst, All, HoldsAt, IsTrue}
use Rattle.std.{proofs.Common.MatchBool, proofs.lemmas.Bool.MatchBool-at_true, proofs.lemmas.Iterator.YieldsList}
use Rattle.std.{proofs.lemmas.Iterator.Consumers.YieldsList-from_shown, proofs.lemmas.Iterator.Search.true_from_All}
use Rattle.std.{proofs.lemmas.List.Elements.All-from_all_within, specs.List.AllWithin, specs.Path.IsNextComponent}
use Rattle.std.{specs.Path.{component_bytes, components_remaining}, specs.declared.path.components.Component.Component}
use Rattle.std.specs.declared.path.components.Components.{Components}

abbrev Steps : Components → Option Component → Components → Type 0
Steps s part t = IsNextComponent (components_remaining s) part (components_remaining t)

-- the iterator gives the components that are left
pub YieldsList-from_components : {s : Components} (parts : List (List ℕ)) → components_remaining s ≡ parts
    → YieldsList Steps component_bytes s parts
YieldsList-from_components {s} parts is = subst (YieldsList Steps component_bytes s) is
    (YieldsList-from_shown Steps component_bytes components_remaining (λ t u h. ap length h.0) (λ t part u h. h.0) s)

abbrev pub IsDown : List ℕ → Type 0
IsDown part = part ≢ codes ".."

abbrev pub IsUp : List ℕ → Type 0
IsUp part = part ≡ codes ".."

-- a search for `..` decides whether none is there
pub none_is_up : (parts : List (List ℕ)) (r : Bool)
    → MatchBool r (AllWithin IsDown parts 0 (length parts)) ((k : ℕ) × (k < length parts) × HoldsAt IsUp parts k)
    → IsTrue r ↔ All IsDown parts
none_is_up parts r found = (
  λ is. All-from_all_within IsDown parts (MatchBool-at_true _ _ is found),
  λ all. true_from_All IsDown IsUp r parts (λ part down up. down up) found all,
)
