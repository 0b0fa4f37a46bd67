-- Which of a server's offers is chosen; its preferred one is the first (RFC 9110, sections 12.1 and 12.4).
use Rattle.std.specs.Prelude.{◌≡◌, ℕ, ◌<◌, ◌≤◌, List, [], ◌∷◌, length, get_or, Option, Some, None, nat_lt}
use Rattle.std.specs.Prelude.{if◌then◌else◌}
use Rattle.http_header.specs.FieldValue.{FieldValue}
use Rattle.decide_negotiation.specs.{Qualities.rank, declared.{choice.Leader.Leader, acceptability.Quality.Quality}}

module _ {A : Type 0} (score : A → ℕ) (xs : List A) where
  -- the item at this place has a score, no item has a greater one, and each item before it has a lesser one
  pub record IsFirstOfGreatest (place : ℕ) : Type 0 where
    pub within : place < length xs
    pub positive : (other : A) → 0 < score (get_or xs place other)
    pub greatest : (k : ℕ) (other : A) → k < length xs → score (get_or xs k other) ≤ score (get_or xs place other)
    pub first : (k : ℕ) (other : A) → k < place → score (get_or xs k other) < score (get_or xs place other)

  -- the place of the item that is chosen by its score, or none if no item has a score
  abbrev pub Picks : Option ℕ → Type 0
  Picks None = (k : ℕ) (other : A) → k < length xs → score (get_or xs k other) ≡ 0
  Picks (Some place) = IsFirstOfGreatest place

-- the rank of an offer
abbrev pub offer_rank : (List ℕ → Quality) → FieldValue → ℕ
offer_rank quality offer = rank (quality offer.bytes)

-- The offer at the place is chosen: it is acceptable, none has a greater quality, and those before it have a lesser
-- one. None is chosen if none is acceptable.
abbrev pub Chooses : (List ℕ → Quality) → List FieldValue → Option ℕ → Type 0
Chooses quality offers choice = Picks (offer_rank quality) offers choice

-- ---- how it is found

-- the first place with the greatest score, after one more score
abbrev pub led : Leader → Option ℕ → ℕ → Leader
led leader place score = if nat_lt leader.score score then record { place = place; score = score } else leader

-- the first of the offers, if there is one
abbrev pub first_place : {A : Type 0} → List A → Option ℕ
first_place [] = None
first_place (offer ∷ offers) = Some 0
