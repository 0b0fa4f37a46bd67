-- Parameters by their names, and the text of a name that parameters may say in two ways.
use Rattle.std.specs.Prelude.{ℕ, List, [], ◌∷◌, Option, Some, None, is_some, option_and_then, option_map, position}
use Rattle.std.specs.{Prelude.if◌then◌else◌, Option.{option_map_or, option_or}}
use Rattle.{headers_syntax.specs.AsciiCase.same_name, rfc_fields.specs.{Directives.{DirectiveParts, directive_in}}}
use Rattle.rfc_fields.specs.{Members.members_of, Scan.{Member, Member.{Whole, Malformed}}, Values.octets_of}
use Rattle.rfc_lists.specs.{Attributes.attribute_in, Extended.extended_text}
use Rattle.rfc_lists.specs.{Lines.{between_semicolons, line, squeezed}}
use Rattle.rfc_lists.specs.declared.named.Counts.{Counts, TheVariants.{First, Last}}

-- the parameters of an element, which follow what is before its first semicolon
abbrev pub behind_first : List Member → List Member
behind_first [] = []
behind_first (Whole first ∷ others) = members_of others
behind_first (Malformed ∷ others) = []

abbrev pub parameters_in : List ℕ → List Member
parameters_in element = behind_first (between_semicolons element)

-- a member, if it has this name before its first `=`, in any case
abbrev pub with_name : List ℕ → Member → Option (List ℕ)
with_name name (Whole text) = if same_name (attribute_in text).0 name then Some text else None
with_name name Malformed = None

-- the first of two, or the last
abbrev pub counted : Counts → Option (List ℕ) → Option (List ℕ) → Option (List ℕ)
counted First one other = option_or one other
counted Last one other = option_or other one

-- the first of the members with this name, or the last
unfoldable pub named : Counts → List ℕ → List Member → Option (List ℕ)
named counts name [] = None
named counts name (member ∷ members) = counted counts (with_name name member) (named counts name members)

-- the place, from 0, of the first of some names that is this one, in any case (RFC 9110, section 5.6.6)
abbrev pub place_named : List ℕ → List (List ℕ) → Option ℕ
place_named name names = position (λ other. same_name other name) names

-- the octets of the value of a parameter, if it has one
abbrev pub octets_in : List ℕ → Option (List ℕ)
octets_in text =
    option_and_then (λ (d : DirectiveParts). option_map octets_of d.argument) (directive_in (squeezed text))

abbrev pub first_octets : List ℕ → List Member → Option (List ℕ)
first_octets name members = option_and_then octets_in (named First name members)

-- a value, if it means a text (RFC 8187)
abbrev pub if_meant : List ℕ → Option (List ℕ)
if_meant value = if is_some (extended_text value) then Some value else None

-- The text of a name (RFC 8288, section 3.4.1; RFC 6266, section 4.3): `e` and the value of the first parameter whose
-- name has a star, if that means a text; else `o` and the octets of the first parameter without one. RFC 6266, section
-- 4.1, has one parameter of a name at most; that the first of several counts there is our choice.
abbrev pub named_line : List ℕ → List ℕ → List Member → List ℕ
named_line name starred members =
    option_map_or (line 101) (option_and_then if_meant (first_octets starred members))
    (option_map_or (line 111) (first_octets name members) [])
