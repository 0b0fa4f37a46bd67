-- Directives and parameters: a name, and perhaps a value (RFC 9111, section 5.2; RFC 9110, section 5.6.6).
use Rattle.std.specs.Prelude.{◌≡◌, ℕ, ◌-◌, Bool, true, false, ◌&&◌, List, [], ◌∷◌, ◌++◌, length, take, drop, map, find}
use Rattle.std.specs.{Prelude.{Option, None, Some, option_map, bytes_eq, if◌then◌else◌}, List.{list_all, prefix_len}}
use Rattle.{http_header.specs.Token.is_token_byte, headers_syntax.specs.{AsciiCase.same_name, Lines.Line, Text.trim}}
use Rattle.rfc_fields.specs.{Grammar.semicolon, Scan.{Member, pieces, Member.{Whole, Malformed}}, Members.field_members}
use Rattle.rfc_fields.specs.{Members.members_of, Values.{ValueParts, is_token, is_value, value_text, value_parts}}
use Rattle.rfc_fields.specs.{Values.ValueParts.{TokenText, QuotedText}, declared.directives.Directive.Directive}
use Rattle.rfc_fields.specs.declared.scan.State.TheVariants.{Outside}

-- b'='
abbrev pub equals : ℕ
equals = 61

pub record DirectiveParts : Type 0 where
  pub name : List ℕ
  pub argument : Option ValueParts

-- the text after the name
abbrev pub argument_text : Option ValueParts → List ℕ
argument_text None = []
argument_text (Some v) = equals ∷ value_text v

abbrev pub is_argument : Option ValueParts → Bool
is_argument None = true
is_argument (Some v) = is_value v

-- token [ "=" ( token / quoted-string ) ]
abbrev pub directive_text : DirectiveParts → List ℕ
directive_text d = d.name ++ argument_text d.argument

abbrev pub is_directive : DirectiveParts → Bool
is_directive d = is_token d.name && is_argument d.argument

-- the text, all of it, is that directive
pub record IsDirective (text : List ℕ) (d : DirectiveParts) : Type 0 where
  pub valid : is_directive d ≡ true
  pub written : text ≡ directive_text d

-- the value that a text is, if it is one at all: a token, or what is between the quotes at its ends
abbrev pub value_at : List ℕ → ValueParts
value_at text = if is_token text then TokenText text else QuotedText (take (length text - 2) (drop 1 text))

abbrev pub argument_at : List ℕ → Option ValueParts
argument_at [] = None
argument_at (b ∷ text) = Some (value_at text)

-- the directive that a text is, if it is one at all: the token that it begins with, and what follows the next byte
abbrev pub parts_at : List ℕ → DirectiveParts
parts_at text =
    record {
      name = take (prefix_len is_token_byte text) text;
      argument = argument_at (drop (prefix_len is_token_byte text) text);
    }

-- the directive that a text is, if it is one: then the text is that of these parts
unfoldable pub directive_in : List ℕ → Option DirectiveParts
directive_in text =
    if is_directive (parts_at text) && bytes_eq text (directive_text (parts_at text)) then Some (parts_at text)
    else None

-- the text after a name is that argument
pub record IsArgument (text : List ℕ) (a : Option ValueParts) : Type 0 where
  pub valid : is_argument a ≡ true
  pub written : text ≡ argument_text a

-- the parts of a `Directive`
abbrev pub directive_parts : Directive → DirectiveParts
directive_parts d = record { name = d.name.now; argument = option_map value_parts d.argument }

-- the directive has that name, in any case
abbrev pub is_named : List ℕ → DirectiveParts → Bool
is_named name d = same_name d.name name

-- the member that a directive is
abbrev pub directive_member : DirectiveParts → Member
directive_member d = Whole (directive_text d)

-- the members are these directives and nothing else
pub record ListsDirectives (ms : List Member) (ds : List DirectiveParts) : Type 0 where
  pub valid : list_all is_directive ds ≡ true
  pub written : ms ≡ map directive_member ds

-- the field has these directives and nothing else: each of its lines is well formed, and each member is a directive
abbrev pub AreDirectives : List Line → List DirectiveParts → Type 0
AreDirectives lines ds = ListsDirectives (field_members true lines) ds

-- the field has directives and nothing else, and this is the first of that name, if there's one
pub record FindsDirective (lines : List Line) (name : List ℕ) (found : Option DirectiveParts) : Type 0 where
  pub directives : List DirectiveParts
  pub are : AreDirectives lines directives
  pub first : found ≡ find (is_named name) directives

-- the field has something else than directives: a malformed line, or a member that is no directive
abbrev pub HasOtherThanDirectives : List Line → Type 0
HasOtherThanDirectives lines = (ds : List DirectiveParts) → AreDirectives lines ds → ⊥

-- the field has directives and nothing else, and none of that name
abbrev pub IsClearOf : List Line → List ℕ → Type 0
IsClearOf lines name = FindsDirective lines name None

-- a member is that directive
abbrev pub IsMemberDirective : Member → DirectiveParts → Type 0
IsMemberDirective (Whole s) d = IsDirective s d
IsMemberDirective Malformed d = ⊥

-- what was found before, or else the directive, if it has the name
abbrev pub or_named : List ℕ → Option DirectiveParts → DirectiveParts → Option DirectiveParts
or_named name (Some first) d = Some first
or_named name None d = if is_named name d then Some d else None

abbrev pub is_token_member : Member → Bool
is_token_member (Whole s) = is_token s
is_token_member Malformed = false

-- the member is that token, in any case
abbrev pub is_same_token : List ℕ → Member → Bool
is_same_token token (Whole s) = same_name s token
is_same_token token Malformed = false

-- what is before the first semicolon of an element, and the parameters after it (RFC 9110, section 5.6.6)
pub record HasParameters (element value : List ℕ) (parameters : List Member) : Type 0 where
  pub first : List ℕ
  pub others : List Member
  pub cut : pieces semicolon true Outside element ≡ Whole first ∷ others
  pub trimmed : value ≡ trim first
  pub listed : parameters ≡ members_of others
