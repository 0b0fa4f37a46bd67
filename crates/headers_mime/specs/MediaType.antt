-- Media types (RFC 9110, section 8.3.1; tokens, quoted strings and parameters by its section 5.6).
use Rattle.std.specs.Prelude.{◌≡◌, ◌≢◌, ◌⊎◌, ℕ, Bool, ◌&&◌, IsTrue, List, [], ◌∷◌, ◌++◌, map, Option, Some, None}
use Rattle.std.specs.Prelude.{IfSome, bytes_eq, codes, if◌then◌else◌}
use Rattle.std.specs.List.{All, AllPass, list_all, flat_map, filter_map}
use Rattle.http_header.specs.Token.{IsToken, is_token_byte, is_visible_or_blank, lowercase}
use Rattle.headers_syntax.specs.Text.{quote, is_blank}

-- b';'
abbrev pub semicolon : ℕ
semicolon = 59

-- b'/'
abbrev pub slash : ℕ
slash = 47

-- b'='
abbrev pub equals : ℕ
equals = 61

-- b'\\'
abbrev pub backslash : ℕ
backslash = 92

-- a parameter as in the text; a quoted value includes its quotes
pub record Parameter : Type 0 where
  pub name : List ℕ
  pub value : List ℕ

-- the parts of a media type, as in the text
pub record MediaType : Type 0 where
  pub top_level : List ℕ
  pub subtype : List ℕ
  pub parameters : List Parameter

-- only spaces and tabs
abbrev pub IsBlanks : List ℕ → Type 0
IsBlanks s = AllPass is_blank s

-- what is between quotes: a byte by itself, or a byte after a backslash
pub data QuotedPart : Type 0 where
  plain : ℕ → QuotedPart
  escaped : ℕ → QuotedPart

-- a quoted-pair may have any byte of text; any byte but a quote and a backslash may be by itself
abbrev pub IsQuotedPart : QuotedPart → Type 0
IsQuotedPart (plain b) = IsTrue (is_visible_or_blank b) × (b ≢ quote) × (b ≢ backslash)
IsQuotedPart (escaped b) = IsTrue (is_visible_or_blank b)

abbrev pub quoted_part_text : QuotedPart → List ℕ
quoted_part_text (plain b) = b ∷ []
quoted_part_text (escaped b) = backslash ∷ b ∷ []

-- a quote, any number of parts, and a quote
pub record IsQuotedString (s : List ℕ) : Type 0 where
  pub parts : List QuotedPart
  pub valid : All IsQuotedPart parts
  pub text : s ≡ quote ∷ (flat_map quoted_part_text parts ++ quote ∷ [])

-- a name that is a token, and a value that is a token or a quoted string
pub record IsParameter (p : Parameter) : Type 0 where
  pub name : IsToken p.name
  pub value : IsToken p.value ⊎ IsQuotedString p.value

abbrev pub parameter_text : Parameter → List ℕ
parameter_text p = p.name ++ equals ∷ p.value

-- a semicolon, with blanks on both sides, and a parameter or nothing after it
pub record Segment : Type 0 where
  pub before : List ℕ
  pub after : List ℕ
  pub parameter : Option Parameter

pub record IsSegment (s : Segment) : Type 0 where
  pub before : IsBlanks s.before
  pub after : IsBlanks s.after
  pub parameter : IfSome s.parameter IsParameter

abbrev pub optional_text : Option Parameter → List ℕ
optional_text None = []
optional_text (Some p) = parameter_text p

abbrev pub segment_text : Segment → List ℕ
segment_text s = s.before ++ semicolon ∷ (s.after ++ optional_text s.parameter)

abbrev pub segments_text : List Segment → List ℕ
segments_text segments = flat_map segment_text segments

-- the parameters of segments, in order
abbrev pub parameters_of : List Segment → List Parameter
parameters_of segments = filter_map (λ (s : Segment). s.parameter) segments

-- A text parses as a media type: a token, a slash, a token and any number of segments, with blanks at both ends.
pub record IsMediaType (text : List ℕ) (media : MediaType) : Type 0 where
  pub front : List ℕ
  pub segments : List Segment
  pub back : List ℕ
  pub text_is : text ≡ front ++ (media.top_level ++ slash ∷ (media.subtype ++ (segments_text segments ++ back)))
  pub parameters_are : media.parameters ≡ parameters_of segments
  pub front_is : IsBlanks front
  pub top_level_is : IsToken media.top_level
  pub subtype_is : IsToken media.subtype
  pub segments_are : All IsSegment segments
  pub back_is : IsBlanks back

-- a parameter `charset`, in any case of the name, whose value is a token
abbrev pub is_charset_token : Parameter → Bool
is_charset_token p = bytes_eq (lowercase p.name) (codes "charset") && list_all is_token_byte p.value

-- the value in canonical form: in lower case for a `charset` that is a token, else as in the text
abbrev pub canonical_value : Parameter → List ℕ
canonical_value p = if is_charset_token p then lowercase p.value else p.value

abbrev pub canonical_parameter : Parameter → Parameter
canonical_parameter p = record { name = lowercase p.name; value = canonical_value p }

-- the parts in lower case, except the values of parameters
abbrev pub canonical_parts : MediaType → MediaType
canonical_parts m =
    record {
      top_level = lowercase m.top_level;
      subtype = lowercase m.subtype;
      parameters = map canonical_parameter m.parameters;
    }

-- each parameter after a semicolon and one space
abbrev pub parameters_text : List Parameter → List ℕ
parameters_text ps = flat_map (λ (p : Parameter). semicolon ∷ 32 ∷ parameter_text p) ps

abbrev pub media_text : MediaType → List ℕ
media_text m = m.top_level ++ slash ∷ (m.subtype ++ parameters_text m.parameters)

-- the canonical text of a parsed media type
abbrev pub canonical : MediaType → List ℕ
canonical m = media_text (canonical_parts m)

-- the text is the canonical text of some media type
abbrev pub IsCanonical : List ℕ → Type 0
IsCanonical text = (m : MediaType) × IsMediaType text m × (canonical m ≡ text)
