-- Fronts of language tags.
use Rattle.std.proofs.{Common.{◌≡◌, ℕ, ◌<◌, false, List, [], ◌∷◌, length, drop, ap, arith}, Math.Seq.drop-cons}
use Rattle.decide_negotiation.specs.Languages.{covers}

-- no range that is longer covers a tag
pub covers-end : (range : List ℕ) (i : ℕ) (rest : List ℕ) → i < length range → length rest ≡ 0
    → covers (drop i range) rest ≡ false
covers-end range i [] low none = ap (λ (front : List ℕ). covers front []) (drop-cons range i 0 low)
covers-end range i (b ∷ rest) low none = absurd (omega (arith, none))
