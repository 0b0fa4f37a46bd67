-- Extensions (RFC 6455, section 9.1). Blanks may be between any two words of its grammar (RFC 2616, section 2.1).
use Rattle.std.specs.Prelude.{◌≡◌, ◌⊎◌, ℕ, ◌==◌, Bool, true, false, List, [], bytes_eq, Option, Some, None, All, IsTrue}
use Rattle.{std.specs.{Prelude.codes, List.{list_all, list_any, slice_split}}, headers.specs.LineMap.LineMap}
use Rattle.{headers.specs.{Lines.Line, Text.trim}, rfc_fields.specs.{Cuts.cut, Directives.equals, Grammar.semicolon}}
use Rattle.rfc_fields.specs.{Members.field_members, Scan.{Member, Member.{Whole, Malformed}}, Values.IsValue}
use Rattle.{rfc_fields.specs.Values.{ValueParts, is_token, octets_of}, decide_handshake.specs.Fields.AbsentOr}
use Rattle.decide_handshake.specs.Fields.{HasMember}

-- ( token / quoted-string ), which means a token
pub record MeansToken (text : List ℕ) : Type 0 where
  pub value : ValueParts
  pub is_value : IsValue text value
  pub token : IsTrue (is_token (octets_of value))

-- extension-param = token [ "=" ( token / quoted-string ) ]
abbrev pub IsParameterOf : List ℕ → Option (List ℕ × List ℕ) → Type 0
IsParameterOf text None = IsTrue (is_token text)
IsParameterOf text (Some sides) = IsTrue (is_token (trim sides.0)) × MeansToken (trim sides.1)

abbrev pub IsParameter : List ℕ → Type 0
IsParameter text = IsParameterOf text (cut equals text)

-- Parameters, with semicolons between them. No quoted-string has a semicolon, since it means a token.
abbrev pub AreParameters : List ℕ → Type 0
AreParameters text = All (λ parameter. IsParameter (trim parameter)) (slice_split (λ b. b == semicolon) text)

-- extension = extension-token *( ";" extension-param )
abbrev pub IsExtensionOf : List ℕ → Option (List ℕ × List ℕ) → Type 0
IsExtensionOf text None = IsTrue (is_token text)
IsExtensionOf text (Some sides) = IsTrue (is_token (trim sides.0)) × AreParameters sides.1

abbrev pub IsExtension : Member → Type 0
IsExtension (Whole element) = IsExtensionOf element (cut semicolon element)
IsExtension Malformed = ⊥

-- extension-list = 1#extension: at least one member, and each is an extension
pub record IsExtensionList (lines : List Line) : Type 0 where
  pub some : HasMember lines
  pub each : All IsExtension (field_members true lines)

-- extension-token: what is before the first semicolon
abbrev pub name_of : List ℕ → Option (List ℕ × List ℕ) → List ℕ
name_of text None = text
name_of text (Some sides) = trim sides.0

abbrev pub extension_name : List ℕ → List ℕ
extension_name element = name_of element (cut semicolon element)

-- the field lines of Sec-WebSocket-Extensions
abbrev pub extension_lines : LineMap → List Line
extension_lines map = map (codes "sec-websocket-extensions")

-- an extension-list, if there is the field
abbrev pub HasExtensions : LineMap → Type 0
HasExtensions map = AbsentOr IsExtensionList (extension_lines map)

-- the member is the extension with this name, compared with case
abbrev pub is_named : List ℕ → Member → Bool
is_named name (Whole element) = bytes_eq (extension_name element) name
is_named name Malformed = false

-- one of the members of a handshake's field has the name of this member
abbrev pub is_among : List Member → Member → Bool
is_among asked (Whole element) = list_any (is_named (extension_name element)) asked
is_among asked Malformed = false

-- each extension of the response was offered, in a list by the grammar; its parameters don't matter
pub record UsesListed (sent response : List Line) : Type 0 where
  pub well_formed : IsExtensionList sent
  pub asked : IsTrue (list_all (is_among (field_members true sent)) (field_members true response))

abbrev pub UsesAskedExtensions : LineMap → LineMap → Type 0
UsesAskedExtensions sent response =
    (extension_lines response ≡ []) ⊎ UsesListed (extension_lines sent) (extension_lines response)
