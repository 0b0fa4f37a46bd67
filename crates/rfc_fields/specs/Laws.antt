-- Theorems about the definitions alone.
use Rattle.std.specs.{Prelude.{◌≡◌, ℕ, Bool, true, false, List, [], ◌∷◌, ◌++◌, map}, List.{flat_map, list_all}}
use Rattle.{http_header.specs.Token.is_value_byte, headers_syntax.specs.Lines.Line, rfc_fields.specs.Grammar.Octet}
use Rattle.rfc_fields.specs.Grammar.{is_octet, octet_text, octet_value, Element, is_element, element_text, list_text}
use Rattle.rfc_fields.specs.{Grammar.{IsList, IsSeparator, comma, semicolon, space}, Scan.{closes, pieces}}
use Rattle.rfc_fields.specs.{Scan.Member.{Whole, Malformed}, Values.{is_quoted_text, octets_from}}
use Rattle.rfc_fields.specs.{declared.scan.State.TheVariants.Outside, Members.{members, field_members, closes_member}}
use Rattle.rfc_fields.specs.{Members.{combined, is_whole, is_well_formed}, Directives.{DirectiveParts, IsDirective}}
use Rattle.rfc_fields.specs.Directives.{AreDirectives, IsClearOf}

-- A list by the grammar is well formed, and is cut into its elements, whichever they are. So it has no others.
abbrev pub ParsesOneWay : Type 0
ParsesOneWay = (separator : ℕ) (pairs : Bool) (first : Element) (others : List Element) → IsSeparator separator
    → list_all (is_element separator pairs) (first ∷ others) ≡ true
    → (closes pairs Outside (list_text separator first others) ≡ true)
    × (pieces separator pairs Outside (list_text separator first others)
    ≡ map (λ e. Whole (element_text e)) (first ∷ others))

-- a well formed text of bytes that a field may have is a list by the grammar
abbrev pub HasAReading : Type 0
HasAReading = (separator : ℕ) (pairs : Bool) (s : List ℕ) → list_all is_value_byte s ≡ true
    → closes pairs Outside s ≡ true → IsList separator pairs s

-- whatever follows a well formed line, the line has its members, and what follows it has the members that it has by
-- itself
abbrev pub KeepsMembersBefore : Type 0
KeepsMembersBefore = (pairs : Bool) (line rest : Line) → closes pairs Outside line ≡ true
    → (closes pairs Outside (line ++ comma ∷ space ∷ rest) ≡ closes pairs Outside rest)
    × (members pairs (line ++ comma ∷ space ∷ rest) ≡ members pairs line ++ members pairs rest)

-- well formed lines that are joined are one well formed line, with the members of each (section 5.3)
abbrev pub JoinKeepsMembers : Type 0
JoinKeepsMembers = (pairs : Bool) (lines : List Line) → list_all (closes pairs Outside) lines ≡ true
    → (closes pairs Outside (combined lines) ≡ true) × (members pairs (combined lines) ≡ field_members pairs lines)

-- the line is a well formed line and a rest, which is one malformed member
pub record EndsMalformed (pairs : Bool) (line : Line) : Type 0 where
  pub before : Line
  pub rest : Line
  pub text : line ≡ before ++ rest
  pub well_formed : closes pairs Outside before ≡ true
  pub malformed : pieces comma pairs Outside rest ≡ Malformed ∷ []
  pub members : members pairs line ≡ members pairs before ++ Malformed ∷ []

-- a line that isn't well formed ends with its one malformed member, which has every byte up to the end
abbrev pub MalformedComesLast : Type 0
MalformedComesLast = (pairs : Bool) (line : Line) → closes pairs Outside line ≡ false → EndsMalformed pairs line

-- a line is well formed exactly if none of its members is malformed
abbrev pub WellFormedIsWhole : Type 0
WellFormedIsWhole = (pairs : Bool) (line : Line) → list_all is_whole (members pairs line) ≡ closes pairs Outside line

-- a whole member is well formed by itself
abbrev pub WholeMembersAreWellFormed : Type 0
WholeMembersAreWellFormed = (pairs : Bool) (line : Line) → list_all (closes_member pairs) (members pairs line) ≡ true

-- what is between the separators of a text is whole exactly if the text is well formed
abbrev pub PartsAreWhole : Type 0
PartsAreWhole = (separator : ℕ) (pairs : Bool) (s : List ℕ) → IsSeparator separator
    → list_all is_whole (pieces separator pairs Outside s) ≡ closes pairs Outside s

-- each member of a field is whole exactly if each of its lines is well formed
abbrev pub WellFormedFieldIsWhole : Type 0
WellFormedFieldIsWhole = (pairs : Bool) (lines : List Line)
    → list_all is_whole (field_members pairs lines) ≡ list_all (closes pairs Outside) lines

-- Octets that a quoted-string may have are parsed as such, and each means what it means (section 5.6.4).
abbrev pub QuotedTextsParse : Type 0
QuotedTextsParse = (octets : List Octet) → list_all (is_octet true) octets ≡ true
    → (is_quoted_text false (flat_map octet_text octets) ≡ true)
    × (octets_from false (flat_map octet_text octets) ≡ map octet_value octets)

-- and no other text is
abbrev pub QuotedTextsAreOctets : Type 0
QuotedTextsAreOctets = (s : List ℕ) → is_quoted_text false s ≡ true
    → (octets : List Octet) × (list_all (is_octet true) octets ≡ true) × (s ≡ flat_map octet_text octets)

-- a text is at most one directive, and a field has at most one list of directives
pub record DirectivesParseOneWay : Type 0 where
  pub one : (text : List ℕ) (d e : DirectiveParts) → IsDirective text d → IsDirective text e → d ≡ e
  pub all : (lines : List Line) (ds es : List DirectiveParts) → AreDirectives lines ds → AreDirectives lines es
      → ds ≡ es

-- well formed lines have the same directives as the one line that they make if they are joined
abbrev pub JoinKeepsDirectives : Type 0
JoinKeepsDirectives = (lines : List Line) (ds : List DirectiveParts) → list_all is_well_formed lines ≡ true
    → (AreDirectives (combined lines ∷ []) ds → AreDirectives lines ds)
    × (AreDirectives lines ds → AreDirectives (combined lines ∷ []) ds)

-- a field with a line that isn't well formed certainly lacks no directive, whatever else it has
abbrev pub MalformedIsClearOfNone : Type 0
MalformedIsClearOfNone = (lines : List Line) (name : List ℕ) → list_all is_well_formed lines ≡ false
    → IsClearOf lines name → ⊥

-- the comma and the semicolon are separators
abbrev pub Separate : Type 0
Separate = IsSeparator comma × IsSeparator semicolon
