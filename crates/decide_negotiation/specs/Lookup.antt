-- Lookup of a language (RFC 4647, section 3.4).
use Rattle.std.specs.Prelude.{◌≡◌, ◌⊎◌, ℕ, ◌-◌, ◌<◌, Bool, true, false, ◌&&◌, ◌||◌, ◌==◌, not, List, [], ◌∷◌, length}
use Rattle.std.specs.Prelude.{get_or, nat_le, nat_lt, Option, Some, None, IsSomeAnd, slice_index, if◌then◌else◌}
use Rattle.{std.specs.{Bool.MatchBool, Option.option_map_or, List.list_any}, http_header.specs.FieldValue.FieldValue}
use Rattle.{headers_syntax.specs.{AsciiCase.same_name, Lines.Line}, rfc_fields.specs.Members.field_members}
use Rattle.{rfc_fields.specs.Scan.Member, decide_negotiation.specs.Choice.{IsFirstOfGreatest, Picks, first_place}}
use Rattle.decide_negotiation.specs.{Elements.ElementParts, Languages.{covers, hyphen, language_element_of}}
use Rattle.decide_negotiation.specs.{Languages.language_says, MediaRanges.is_star, Preferences.strongest}
use Rattle.decide_negotiation.specs.declared.{choice.Leader.Leader, preference.Preference.Preference}

-- the last subtag is a single letter or digit
abbrev pub ends_single : List ℕ → Bool
ends_single tag = length tag == 1 || (nat_le 2 (length tag) && slice_index tag (length tag - 2) == hyphen)

-- A range is truncated from its end, subtag by subtag; a subtag that is a single letter or digit is removed together
-- with the one after it. The tag is the range, or one of the truncated texts.
abbrev pub is_truncation : List ℕ → List ℕ → Bool
is_truncation range tag = same_name range tag || (covers tag range && not (ends_single tag))

-- the most specific range that matches the tag by filtering is no star, and has the weight 0 (RFC 9110, section 12.4.2)
abbrev pub excludes : Preference → Bool
excludes p = p.names == 1 && p.quality == 0

abbrev pub is_excluded : List Member → List ℕ → Bool
is_excluded field tag = option_map_or excludes (strongest (language_says tag) field) false

-- how near a tag is to a range: the longer the truncated range, the nearer; without a range all tags are equally near
abbrev pub nearness : List Member → Option (List ℕ) → List ℕ → ℕ
nearness field None tag = if is_excluded field tag then 0 else 1
nearness field (Some range) tag = if is_truncation range tag && not (is_excluded field tag) then length tag else 0

abbrev pub offer_nearness : List Member → Option (List ℕ) → FieldValue → ℕ
offer_nearness field wanted offer = nearness field wanted offer.bytes

-- the range, truncated, is some offer
abbrev pub finds : List Member → List FieldValue → List ℕ → Bool
finds field offers range = list_any (λ offer. nat_lt 0 (offer_nearness field (Some range) offer)) offers

abbrev pub weight_if_found : List Member → List FieldValue → ElementParts → ℕ
weight_if_found field offers e = if not (is_star e.range) && finds field offers e.range then e.weight else 0

-- the weight of a range that finds an offer; a star is skipped
abbrev pub range_weight : List Member → List FieldValue → Member → ℕ
range_weight field offers member = option_map_or (weight_if_found field offers) (language_element_of member) 0

-- The ranges are tried by their weights, and those of one weight in their order. The first that finds an offer finds
-- this one, the nearest to it.
pub record IsLookedUp (field : List Member) (offers : List FieldValue) (place : ℕ) : Type 0 where
  pub index : ℕ
  pub element : ElementParts
  pub first : IsFirstOfGreatest (range_weight field offers) field index
  pub is : (other : Member) → language_element_of (get_or field index other) ≡ Some element
  pub nearest : IsFirstOfGreatest (offer_nearness field (Some element.range)) offers place

-- the result of the ranges
abbrev pub Finds : List Member → List FieldValue → Option ℕ → Type 0
Finds field offers None = Picks (range_weight field offers) field None
Finds field offers (Some place) = IsLookedUp field offers place

abbrev pub is_any : ElementParts → Bool
is_any e = is_star e.range && not (e.weight == 0)

-- the field has a star
abbrev pub accepts_any : List Member → Bool
accepts_any field = list_any (λ member. option_map_or is_any (language_element_of member) false) field

-- the result if no range finds an offer: with a star the default, which is the first that isn't excluded
abbrev pub IsDefault : List Member → List FieldValue → Option ℕ → Type 0
IsDefault field offers choice =
    MatchBool (accepts_any field) (Picks (offer_nearness field None) offers choice) (choice ≡ None)

abbrev pub LooksUpIn : List Member → List FieldValue → Option ℕ → Type 0
LooksUpIn field offers choice =
    IsSomeAnd choice (IsLookedUp field offers) ⊎ (Finds field offers None × IsDefault field offers choice)

-- the result of lookup by all lines of the field; without a line the first offer
abbrev pub LooksUp : List Line → List FieldValue → Option ℕ → Type 0
LooksUp [] offers choice = choice ≡ first_place offers
LooksUp (line ∷ lines) offers choice = LooksUpIn (field_members true (line ∷ lines)) offers choice

-- ---- how it is found

-- the result of one member
pub record FoundBy (field : List Member) (offers : List FieldValue) (member : Member) (found : Leader) : Type 0 where
  pub score : found.score ≡ range_weight field offers member
  pub place : 0 < found.score
      → (element : ElementParts) × (place : ℕ) × (language_element_of member ≡ Some element)
      × (found.place ≡ Some place) × IsFirstOfGreatest (offer_nearness field (Some element.range)) offers place
