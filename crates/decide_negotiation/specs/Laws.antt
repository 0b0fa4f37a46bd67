-- Theorems about the definitions, in the words of the RFCs.
use Rattle.std.specs.Prelude.{⊤, ◌≡◌, ◌⊎◌, ◌↔◌, ℕ, ◌≤◌, ◌<◌, true, List, [], ◌∷◌, ◌++◌, Any, Contains, filter_map}
use Rattle.{std.specs.Prelude.{codes, Option, Some, get_or, length}, http_header.specs.FieldValue.FieldValue}
use Rattle.{http_header.specs.Token.lowercase, headers_syntax.specs.{AsciiCase.SameButForCase, Lines.Line}}
use Rattle.{rfc_fields.specs.{Members.members, Scan.Member, Values.octets_of}, decide_negotiation.specs.Choice.Chooses}
use Rattle.decide_negotiation.specs.{Choice.first_place, Elements.{ElementParts, bare_element_of}, Lookup.LooksUp}
use Rattle.decide_negotiation.specs.{Parameters.ParameterParts, Preferences.{IsBest, strongest}}
use Rattle.decide_negotiation.specs.declared.{acceptability.Quality.Quality, preference.Preference.Preference}
use Rattle.decide_negotiation.specs.{Codings.{coding_quality, encoding_quality, member_quality}, Languages.covers}
use Rattle.decide_negotiation.specs.{Languages.{hyphen, language_says}, MediaRanges.{MediaRangeParts, MediaTypeParts}}
use Rattle.decide_negotiation.specs.{MediaRanges.{matches, media_type_says}, Qualities.{preferred, quality_by}}
use Rattle.decide_negotiation.specs.Qualities.{quality_in, rank}

-- ---- which element decides (RFC 9110, section 12.5.1)

-- the strongest of all preferences decides about an offer, and any other strongest one gives the same quality
pub record MostSpecificDecides : Type 0 where
  pub decides : (says : Member → Option Preference) (field : List Member)
      → IsBest (filter_map says field) (strongest says field)
  pub one : (said : List Preference) (a b : Option Preference) → IsBest said a → IsBest said b
      → preferred a ≡ preferred b

-- ---- choices (section 12.4.1)

pub record HasOneChoice (gives : List Member → List ℕ → Quality) : Type 0 where
  pub some : (lines : List Line) (offers : List FieldValue)
      → (choice : Option ℕ) × Chooses (quality_in gives lines) offers choice
  pub one : (lines : List Line) (offers : List FieldValue) (a b : Option ℕ)
      → Chooses (quality_in gives lines) offers a → Chooses (quality_in gives lines) offers b → a ≡ b

abbrev pub TakesTheFirst : (List Member → List ℕ → Quality) → Type 0
TakesTheFirst gives = (offers : List FieldValue) (choice : Option ℕ) → Chooses (quality_in gives []) offers choice
    → choice ≡ first_place offers

-- ---- media ranges (section 12.5.1)

-- a name of a range is the star, or that of the media type
abbrev pub IsStarOrSame : List ℕ → List ℕ → Type 0
IsStarOrSame name other = (name ≡ codes "*") ⊎ SameButForCase name other

-- the parameters have one name, and values that mean the same octets, ignoring case
pub record IsSameParameter (p q : ParameterParts) : Type 0 where
  pub name : SameButForCase p.name q.name
  pub value : SameButForCase (octets_of p.value) (octets_of q.value)

pub record Matches (r : MediaRangeParts) (t : MediaTypeParts) : Type 0 where
  pub type_name : IsStarOrSame r.names.type_name t.names.type_name
  pub subtype : IsStarOrSame r.names.subtype t.names.subtype
  pub parameters : (p : ParameterParts) → Contains r.parameters p → Any (IsSameParameter p) t.parameters

-- a range matches a media type exactly if type and subtype are equal or a star, and it has each parameter of the range
abbrev pub RangesMatch : Type 0
RangesMatch = (r : MediaRangeParts) (t : MediaTypeParts) → (matches r t ≡ true) ↔ Matches r t

-- ---- codings (sections 8.4.1 and 12.5.3)

-- the element is `identity;q=0` or `*;q=0`
pub record ExcludesIdentity (member : Member) : Type 0 where
  pub element : ElementParts
  pub is : bare_element_of member ≡ Some element
  pub weight : element.weight ≡ 0
  pub range : (element.range ≡ codes "*") ⊎ SameButForCase element.range (codes "identity")

-- content without a coding is acceptable unless an element excludes it
abbrev pub IdentityIsExcludedByName : Type 0
IdentityIsExcludedByName = (field : List Member) → coding_quality field (codes "identity") ≡ Quality.NotAcceptable
    → Any ExcludesIdentity field

-- both names of a coding have one quality
pub record HasTwoNames : Type 0 where
  pub gzip : (field : List Member) → coding_quality field (codes "x-gzip") ≡ coding_quality field (codes "gzip")
  pub compress : (field : List Member)
      → coding_quality field (codes "x-compress") ≡ coding_quality field (codes "compress")

-- if content without a coding is chosen although no element matches it, no offer is listed with a weight above 0
abbrev pub ListedComesFirst : Type 0
ListedComesFirst = (lines : List Line) (offers : List FieldValue) (place k : ℕ) (offer other : FieldValue)
    → Chooses (quality_in encoding_quality lines) offers (Some place)
    → quality_in encoding_quality lines (get_or offers place offer).bytes ≡ Quality.Unlisted → k < length offers
    → rank (quality_in encoding_quality lines (get_or offers k other).bytes) ≤ rank Quality.Unlisted

-- content with several codings is at most as acceptable as each of them
abbrev pub EachCodingIsAccepted : Type 0
EachCodingIsAccepted = (field : List Member) (offer : List ℕ) (coding : Member) → Contains (members true offer) coding
    → rank (encoding_quality field offer) ≤ rank (member_quality field coding)

-- ---- languages (RFC 4647, sections 3.3.1 and 3.4)

-- a range matches a tag exactly if the tag is equal to it, or begins with it and a hyphen
abbrev pub RangesCover : Type 0
RangesCover = (range tag : List ℕ) → (covers range tag ≡ true)
    ↔ ((lowercase tag ≡ lowercase range) ⊎ ((rest : List ℕ) × (lowercase tag ≡ lowercase range ++ hyphen ∷ rest)))

pub record HasOneLookup : Type 0 where
  pub some : (lines : List Line) (offers : List FieldValue) → (choice : Option ℕ) × LooksUp lines offers choice
  pub one : (lines : List Line) (offers : List FieldValue) (a b : Option ℕ) → LooksUp lines offers a
      → LooksUp lines offers b → a ≡ b

-- ---- weights (RFC 9110, section 12.4.2)

-- a weight is 1 to 1000 thousandths
abbrev pub IsInRange : Quality → Type 0
IsInRange Quality.NotAcceptable = ⊤
IsInRange Quality.Unlisted = ⊤
IsInRange (Quality.Weight thousandths) = (0 < thousandths) × (thousandths ≤ 1000)

pub record WeightsAreInRange : Type 0 where
  pub media : (field : List Member) (offer : List ℕ) → IsInRange (quality_by media_type_says field offer)
  pub encoding : (field : List Member) (offer : List ℕ) → IsInRange (encoding_quality field offer)
  pub language : (field : List Member) (offer : List ℕ) → IsInRange (quality_by language_says field offer)
