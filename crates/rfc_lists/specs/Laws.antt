-- Theorems about the definitions alone.
use Rattle.std.specs.{Prelude.{◌≡◌, ℕ, Bool, true, false, List, map, nat_lt, Some, option_map}, List.flat_map}
use Rattle.std.specs.{Prelude.{option_and_then, slice_get}, List.list_all, Str.is_utf8}
use Rattle.{http_header.specs.Token.is_value_byte, percent_encoding.specs.Percent.percent_decode}
use Rattle.rfc_fields.specs.{Directives.{DirectiveParts, IsDirective}, Scan.Member.Whole, Values.{is_token, octets_of}}
use Rattle.rfc_lists.specs.{Attributes.attribute_in, Extended.{ValueChar, are_value_chars, char_octet, char_text}}
use Rattle.rfc_lists.specs.{Extended.{extended_text, extended_value, is_value_char}, Named.{named, place_named}}
use Rattle.rfc_lists.specs.{Parameters.{is_extended, parameter_text}, declared.parameters.ParameterKind.ParameterKind}
use Rattle.rfc_lists.specs.declared.named.Counts.TheVariants.{First}

-- value-chars are found to be such, and mean the octet of each
abbrev pub ValueCharsParse : Type 0
ValueCharsParse = (chars : List ValueChar) → list_all is_value_char chars ≡ true
    → (are_value_chars 0 (flat_map char_text chars) ≡ true)
    × (percent_decode (flat_map char_text chars) ≡ map char_octet chars)

-- a text is these value-chars
pub record AreChars (text : List ℕ) (chars : List ValueChar) : Type 0 where
  pub valid : list_all is_value_char chars ≡ true
  pub written : text ≡ flat_map char_text chars

-- no other text is
abbrev pub ValueCharsAreSuch : Type 0
ValueCharsAreSuch = (text : List ℕ) → are_value_chars 0 text ≡ true → (chars : List ValueChar) × AreChars text chars

abbrev pub is_byte : ℕ → Bool
is_byte b = nat_lt b 256

-- a text in UTF-8 that is written as an ext-value decodes to the same text
abbrev pub ExtendedReadsBack : Type 0
ExtendedReadsBack = (text : List ℕ) → list_all is_byte text ≡ true → is_utf8 text ≡ true
    → extended_text (extended_value text) ≡ Some text

-- the directive has this name, and its argument means this text
pub record Means (name text : List ℕ) (d : DirectiveParts) : Type 0 where
  pub named : d.name ≡ name
  pub meant : option_map octets_of d.argument ≡ Some text

-- a text of bytes that a field may have decodes to the same text, if it is written as a parameter that isn't extended
abbrev pub ParametersReadBack : Type 0
ParametersReadBack = (kind : ParameterKind) (name text : List ℕ) → is_token name ≡ true
    → list_all is_value_byte text ≡ true → is_extended kind text ≡ false
    → (d : DirectiveParts) × IsDirective (parameter_text kind name text) d × Means name text d

-- the first of some parameters that has a name is at the place of that name among the names of all
abbrev pub FirstIsAtItsPlace : Type 0
FirstIsAtItsPlace = (name : List ℕ) (texts : List (List ℕ)) → named First name (map Whole texts)
    ≡ option_and_then (slice_get texts) (place_named name (map (λ text. (attribute_in text).0) texts))
