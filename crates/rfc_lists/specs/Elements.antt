-- Elements with parameters: of lists (RFC 9110, sections 5.6.1 and 5.6.6), and those that are a line each.
use Rattle.std.specs.Prelude.{ℕ, Bool, true, false, not, ◌&&◌, ◌==◌, List, [], ◌∷◌, ◌++◌, length, nat_lt, Option, None}
use Rattle.std.specs.{Prelude.{codes, is_some, option_map, option_and_then, if◌then◌else◌}, List.{flat_map, list_any}}
use Rattle.{std.specs.Option.option_map_or, http_header.specs.Token.lowercase, headers_syntax.specs.AsciiCase.same_name}
use Rattle.{headers_syntax.specs.{Lines.Line, Text.trim}, rfc_fields.specs.Directives.{DirectiveParts, directive_in}}
use Rattle.rfc_fields.specs.{Members.{field_members, members_of}, Scan.{Member, Member.{Whole, Malformed}}}
use Rattle.{rfc_fields.specs.Values.is_token, rfc_lists.specs.{Named.{named_line, with_name}, Caches.malformed_item}}
use Rattle.rfc_lists.specs.{Caches.{name_line, status_lines}, Lines.{between_semicolons, line, malformed_line}}
use Rattle.rfc_lists.specs.{Lines.{member_line, parameter_line, text_line, with_argument}, declared.elements.Form.Form}
use Rattle.rfc_lists.specs.declared.elements.Form.TheVariants.{Element, Disposition, Hop, Cache}

-- the content is saved, and not shown: so is that of each type but `inline`, in any case, as a recipient handles a type
-- that it doesn't know like `attachment` (RFC 6266, section 4.2)
abbrev pub is_attachment : List ℕ → Bool
is_attachment type = not (same_name type (codes "inline"))

-- `a`
abbrev pub attachment_line : List ℕ → List ℕ
attachment_line type = if is_attachment type then 97 ∷ 10 ∷ [] else []

-- the type of a disposition, in lower case (section 4.1), and whether it is an attachment
abbrev pub type_line : List ℕ → List ℕ
type_line text = if is_token text then line 110 (lowercase text) ++ attachment_line text else malformed_line

-- what is before the first semicolon
abbrev pub first_line : Form → List ℕ → List ℕ
first_line Element text = text_line text
first_line Disposition text = type_line text
first_line Hop text = text_line text
first_line Cache text = name_line text

-- a parameter with another name than that of a file
abbrev pub is_other : Member → Bool
is_other member =
    not (is_some (with_name (codes "filename") member)) && not (is_some (with_name (codes "filename*") member))

-- each parameter after it; blanks may be beside the `=` of a disposition's
abbrev pub part_line : Form → Member → List ℕ
part_line Element member = member_line member
part_line Disposition member = parameter_line (is_other member) member
part_line Hop member = member_line member
part_line Cache member = malformed_item member

-- what the parameters mean: the name of a file, and what a cache did
abbrev pub decided_lines : Form → List Member → List ℕ
decided_lines Element members = []
decided_lines Disposition members = named_line (codes "filename") (codes "filename*") members
decided_lines Hop members = []
decided_lines Cache members = status_lines members

abbrev pub piece_lines : Form → List Member → List ℕ
piece_lines form [] = malformed_line
piece_lines form (Whole first ∷ others) =
    first_line form (trim first) ++ flat_map (part_line form) (members_of others)
    ++ decided_lines form (members_of others)
piece_lines form (Malformed ∷ others) = malformed_line

-- ---- hops (RFC 7239, section 4): pairs, and each name once

-- the name of a pair, which is a parameter with a value
abbrev pub name_of : DirectiveParts → List ℕ
name_of d = d.name

abbrev pub pair_name : Member → Option (List ℕ)
pair_name (Whole text) = option_map name_of (option_and_then with_argument (directive_in text))
pair_name Malformed = None

-- the name is none of fewer than 100 others, in any case
abbrev pub is_new : List (List ℕ) → List ℕ → Bool
is_new names name = nat_lt (length names) 100 && not (list_any (same_name name) names)

-- each member is a pair, whose name is new behind those before it
unfoldable pub are_pairs : List (List ℕ) → List Member → Bool
are_pairs names [] = true
are_pairs names (member ∷ members) =
    option_map_or (λ name. is_new names name && are_pairs (names ++ name ∷ []) members) (pair_name member) false

-- a first member, unless it is empty
abbrev pub with_first : List ℕ → List Member → List Member
with_first first members = if length first == 0 then members else Whole first ∷ members

abbrev pub are_hop : List Member → Bool
are_hop [] = false
are_hop (Whole first ∷ others) = are_pairs [] (members_of (Whole first ∷ others))
are_hop (Malformed ∷ others) = false

abbrev pub is_hop : List ℕ → Bool
is_hop element = are_hop (between_semicolons element)

-- ---- elements

abbrev pub parts_text : Form → List ℕ → List ℕ
parts_text form element = piece_lines form (between_semicolons element)

abbrev pub element_text : Form → List ℕ → List ℕ
element_text Element element = parts_text Element element
element_text Disposition element = parts_text Disposition element
element_text Hop element = if is_hop element then parts_text Hop element else malformed_line
element_text Cache element = parts_text Cache element

-- the lines of an element, and an empty one
abbrev pub shown_element : Form → Member → List ℕ
shown_element form (Whole element) = element_text form element ++ 10 ∷ []
shown_element form Malformed = malformed_line ++ 10 ∷ []

abbrev pub elements_text : Form → List Line → List ℕ
elements_text form lines = flat_map (shown_element form) (field_members true lines)

-- each line is one
abbrev pub values_text : Form → List Line → List ℕ
values_text form lines = flat_map (λ text. shown_element form (Whole text)) lines
