-- Requests that agree on the fields by which a resource negotiates select the same.
use Rattle.std.proofs.Common.{arith, ◌≡◌, ℕ, Bool, true, false, List, [], ◌∷◌, Option, Some, None, refl}
use Rattle.{std.specs.Prelude.codes, headers.specs.{LineMap.LineMap, Lines.Line}, rfc_fields.specs.Scan.Member}
use Rattle.decide_negotiation.specs.declared.acceptability.Quality.{Quality}
use Rattle.decide_resource.specs.Representations.{are_unacceptable, rank_by, score}
use Rattle.decide_resource.specs.declared.representation.{Negotiation.Negotiation, Representation.Representation}

-- the fields by which a representation is chosen are the same
pub record SelectAlike (negotiation : Negotiation) (r s : LineMap) : Type 0 where
  pub media_type : negotiation.media_type ≡ true → r (codes "accept") ≡ s (codes "accept")
  pub language : negotiation.language ≡ true → r (codes "accept-language") ≡ s (codes "accept-language")
  pub coding : negotiation.coding ≡ true → r (codes "accept-encoding") ≡ s (codes "accept-encoding")

rank_alike : (gives : List Member → List ℕ → Quality) (used : Bool) (lines others : List Line) (offer : Option Line)
    → (used ≡ true → lines ≡ others) → rank_by gives used lines offer ≡ rank_by gives used others offer
rank_alike gives used lines others offer same = grind (arith, used, offer)

module _ (negotiation : Negotiation) (r s : LineMap) (same : SelectAlike negotiation r s) where
  pub score_alike : (x : Representation) → score negotiation r x ≡ score negotiation s x
  unfolding score
  score_alike x = grind (arith, rank_alike)

  pub unacceptable_alike : (xs : List Representation)
      → are_unacceptable negotiation r xs ≡ are_unacceptable negotiation s xs
  unacceptable_alike [] = refl
  unacceptable_alike (x ∷ xs) = grind (arith, score_alike, unacceptable_alike xs)
