-- Media ranges and media types (RFC 9110, sections 8.3.1 and 12.5.1).
use Rattle.std.specs.Prelude.{ℕ, ◌+◌, Bool, ◌&&◌, ◌||◌, ◌==◌, not, List, length, bytes_eq, codes, Option, Some, None}
use Rattle.std.specs.{Prelude.{option_and_then, option_map, if◌then◌else◌}, List.{after_first, before_first, list_all}}
use Rattle.{std.specs.List.list_any, headers_syntax.specs.AsciiCase.same_name, rfc_fields.specs.Scan.Member}
use Rattle.rfc_fields.specs.{Scan.Member.{Whole, Malformed}, Values.is_token}
use Rattle.decide_negotiation.specs.Elements.{ElementParts, element_in, has_only_parameters, own_parameters}
use Rattle.decide_negotiation.specs.{Elements.{parameters_of, value_of}, Parameters.{ParameterParts, is_same_parameter}}
use Rattle.decide_negotiation.specs.declared.media.{MediaRange.MediaRange, MediaType.MediaType, Names.Names}
use Rattle.decide_negotiation.specs.declared.preference.Preference.{Preference}

-- ---- type and subtype

pub record NamesParts : Type 0 where
  pub type_name : List ℕ
  pub subtype : List ℕ

-- the parts of `Names`
abbrev pub names_parts : Names → NamesParts
names_parts n = record { type_name = n.type_name.now; subtype = n.subtype.now }

abbrev pub is_slash : ℕ → Bool
is_slash b = b == 47

-- the type and subtype of a text, if it is type "/" subtype, two tokens
unfoldable pub names_in : List ℕ → Option NamesParts
names_in text =
    if is_token (before_first is_slash text) && is_token (after_first is_slash text)
    then Some (record { type_name = before_first is_slash text; subtype = after_first is_slash text })
    else None

abbrev pub is_star : List ℕ → Bool
is_star name = bytes_eq name (codes "*")

-- a range may have a star as its subtype, or as both; `*/html` is no range
abbrev pub is_range : NamesParts → Bool
is_range n = not (is_star n.type_name) || is_star n.subtype

-- a name of a range is a star, or that of the media type, in any case
abbrev pub is_star_or_same : List ℕ → List ℕ → Bool
is_star_or_same name other = is_star name || same_name name other

-- how many names a range gives
abbrev pub given : List ℕ → ℕ
given name = if is_star name then 0 else 1

-- ---- ranges and types

pub record MediaTypeParts : Type 0 where
  pub names : NamesParts
  pub parameters : List ParameterParts

pub record MediaRangeParts : Type 0 where
  pub names : NamesParts
  -- the parameters except the weight
  pub parameters : List ParameterParts
  -- the weight, in thousandths
  pub weight : ℕ

-- the parts of a `MediaRange`
abbrev pub media_range_parts : MediaRange → MediaRangeParts
media_range_parts r =
    record { names = names_parts r.names; parameters = own_parameters r.text.now; weight = r.weight }

-- the parts of a `MediaType`
abbrev pub media_type_parts : MediaType → MediaTypeParts
media_type_parts t = record { names = names_parts t.names; parameters = parameters_of t.text.now }

-- the media type that a text is, if it is one
unfoldable pub media_type_in : List ℕ → Option MediaTypeParts
media_type_in text =
    if has_only_parameters text
    then option_map (λ (names : NamesParts). record { names = names; parameters = parameters_of text })
    (names_in (value_of text))
    else None

abbrev pub if_range : ElementParts → NamesParts → Option MediaRangeParts
if_range e names =
    if is_range names then Some (record { names = names; parameters = e.parameters; weight = e.weight }) else None

-- the media range that an element is, if it is one
unfoldable pub media_range_in : List ℕ → Option MediaRangeParts
media_range_in text = option_and_then (λ e. option_and_then (if_range e) (names_in e.range)) (element_in text)

-- the media type has each parameter of a range
abbrev pub are_had : List ParameterParts → List ParameterParts → Bool
are_had wanted parameters = list_all (λ p. list_any (is_same_parameter p) parameters) wanted

-- A range matches a media type exactly if type and subtype are equal or a star, and the media type has each parameter
-- of the range.
abbrev pub matches : MediaRangeParts → MediaTypeParts → Bool
matches r t =
    is_star_or_same r.names.type_name t.names.type_name
    && (is_star_or_same r.names.subtype t.names.subtype && are_had r.parameters t.parameters)

-- ---- the preference of an element for a media type

abbrev pub says_of : MediaRangeParts → MediaTypeParts → Option Preference
says_of r t =
    if matches r t
    then Some (record {
      names = given r.names.type_name + given r.names.subtype;
      extent = length r.parameters;
      quality = r.weight;
    })
    else None

abbrev pub says_in : List ℕ → List ℕ → Option Preference
says_in offer element =
    option_and_then (λ r. option_and_then (says_of r) (media_type_in offer)) (media_range_in element)

-- A quote without an end hides the rest of its line, which may accept anything: its member counts as the range of all
-- media types, with the least weight above 0.
abbrev pub media_type_says : List ℕ → Member → Option Preference
media_type_says offer (Whole element) = says_in offer element
media_type_says offer Malformed = says_in offer (codes "*/*;q=0.001")
