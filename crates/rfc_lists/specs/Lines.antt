-- Lines of text.
use Rattle.std.specs.Prelude.{ℕ, Bool, true, false, List, [], ◌∷◌, ◌++◌, Option, None, Some, if◌then◌else◌, is_some}
use Rattle.{std.specs.Option.{option_and_then, option_map_or}, headers_syntax.specs.Text.trim}
use Rattle.rfc_fields.specs.{Cuts.cut, Directives.{DirectiveParts, directive_in, equals}, Values.octets_of}
use Rattle.rfc_fields.specs.{Grammar.semicolon, Members.pieces_left, Scan.{Member, Member.{Whole, Malformed}}}

-- a letter, a text and a byte 10
abbrev pub line : ℕ → List ℕ → List ℕ
line letter text = letter ∷ (text ++ 10 ∷ [])

-- a letter, a name, `=`, a text and a byte 10
abbrev pub valued_line : ℕ → List ℕ → List ℕ → List ℕ
valued_line letter name text = letter ∷ (name ++ line equals text)

-- `!`
abbrev pub malformed_line : List ℕ
malformed_line = 33 ∷ 10 ∷ []

-- `p`: a name, `=`, and the octets that the value means; `n`: a name alone
abbrev pub directive_line : DirectiveParts → List ℕ
directive_line d =
    option_map_or (λ value. valued_line 112 d.name (octets_of value)) d.argument (line 110 d.name)

-- the line of a text: as a directive if it is one, else `v` and the text
abbrev pub text_line : List ℕ → List ℕ
text_line text = option_map_or directive_line (directive_in text) (line 118 text)

abbrev pub member_line : Member → List ℕ
member_line (Whole text) = text_line text
member_line Malformed = malformed_line

-- a text without the blanks beside its first `=` (RFC 9110, section 5.6.3)
abbrev pub squeezed : List ℕ → List ℕ
squeezed text =
    option_map_or (λ (sides : List ℕ × List ℕ). trim sides.0 ++ equals ∷ trim sides.1) (cut equals text) text

abbrev pub with_argument : DirectiveParts → Option DirectiveParts
with_argument d = if is_some d.argument then Some d else None

-- the parameter that a text is, if it is one (section 11.2)
abbrev pub parameter_in : List ℕ → Option DirectiveParts
parameter_in text = option_and_then with_argument (directive_in (squeezed text))

-- a text, cut at each semicolon outside quotes (RFC 9110, section 5.6.6)
abbrev pub between_semicolons : List ℕ → List Member
between_semicolons text =
    pieces_left (record { separator = semicolon; pairs = true; rest = text; is_done = false })

-- a parameter, without the blanks beside its `=`, if it is to be shown, or a text that is none
abbrev pub parameter_line : Bool → Member → List ℕ
parameter_line shown (Whole text) =
    option_map_or (λ d. if shown then directive_line d else []) (directive_in (squeezed text)) (line 118 text)
parameter_line shown Malformed = malformed_line
