-- Challenges (RFC 9110, sections 11.3 and 11.6.1): schemes, each followed by parameters, or by a token68.
use Rattle.std.specs.Prelude.{ℕ, Bool, true, false, not, ◌&&◌, ◌||◌, ◌==◌, List, [], ◌∷◌, ◌++◌, length, drop, Option}
use Rattle.std.specs.{Prelude.{Some, None, is_some, if◌then◌else◌}, Char.is_ascii_alphanumeric, List.list_all}
use Rattle.{std.specs.{List.prefix_len, Option.option_map_or}, headers_syntax.specs.{Lines.Line, Text.trim}}
use Rattle.rfc_fields.specs.{Cuts.cut, Directives.equals, Grammar.space, Members.field_members, Scan.Member}
use Rattle.{rfc_fields.specs.{Scan.Member.{Whole, Malformed}, Values.is_token}, rfc_lists.specs.Lines.directive_line}
use Rattle.rfc_lists.specs.{Lines.{line, malformed_line, parameter_in}, declared.challenges.Place.Place}
use Rattle.rfc_lists.specs.declared.challenges.Place.TheVariants.{Before, Open, Closed}

-- 1*( ALPHA / DIGIT / "-" / "." / "_" / "~" / "+" / "/" ) *"=" (section 11.2)
abbrev pub is_token68_byte : ℕ → Bool
is_token68_byte b = is_ascii_alphanumeric b || b == 45 || b == 46 || b == 95 || b == 126 || b == 43 || b == 47

abbrev pub is_token68 : List ℕ → Bool
is_token68 text =
    not (prefix_len is_token68_byte text == 0)
    && list_all (λ b. b == equals) (drop (prefix_len is_token68_byte text) text)

-- the scheme that a member of the list begins with, and what follows it, if it begins a challenge
abbrev pub scheme_before : List ℕ × List ℕ → Option (List ℕ × List ℕ)
scheme_before sides = if is_token sides.0 then Some (sides.0, trim sides.1) else None

abbrev pub scheme_in : List ℕ → Option (List ℕ × List ℕ)
scheme_in text =
    option_map_or scheme_before (cut space text) (if is_token text then Some (text, []) else None)

-- an empty line, which ends a challenge
abbrev pub ending : Place → List ℕ
ending Before = []
ending Open = 10 ∷ []
ending Closed = 10 ∷ []

abbrev pub is_open : Place → Bool
is_open Before = false
is_open Open = true
is_open Closed = false

-- what follows a scheme: nothing, a parameter, or a token68
abbrev pub follows : List ℕ → List ℕ
follows rest =
    if length rest == 0 then []
    else option_map_or directive_line (parameter_in rest) (if is_token68 rest then line 107 rest else malformed_line)

-- parameters may follow a scheme alone, and a parameter
abbrev pub after_rest : List ℕ → Place
after_rest rest = if length rest == 0 || is_some (parameter_in rest) then Open else Closed

abbrev pub scheme_lines : Place → List ℕ × List ℕ → List ℕ
scheme_lines place found = ending place ++ line 115 found.0 ++ follows found.1

-- the lines of a member: a parameter of the challenge before it, or the scheme of the next challenge
abbrev pub piece_lines : Place → List ℕ → List ℕ
piece_lines place text =
    if is_some (parameter_in text)
    then (if is_open place then option_map_or directive_line (parameter_in text) [] else malformed_line)
    else option_map_or (scheme_lines place) (scheme_in text) malformed_line

-- whether parameters may follow a member
abbrev pub after_piece : Place → List ℕ → Place
after_piece place text =
    if is_some (parameter_in text) then (if is_open place then Open else Closed)
    else option_map_or (λ (found : List ℕ × List ℕ). after_rest found.1) (scheme_in text) Closed

abbrev pub member_lines : Place → Member → List ℕ
member_lines place (Whole text) = piece_lines place text
member_lines place Malformed = malformed_line

abbrev pub after_member : Place → Member → Place
after_member place (Whole text) = after_piece place text
after_member place Malformed = Closed

-- the lines of some members, behind those before them
abbrev pub challenges_from : Place → List Member → List ℕ
challenges_from place [] = ending place
challenges_from place (member ∷ members) =
    member_lines place member ++ challenges_from (after_member place member) members

abbrev pub challenges_text : List Line → List ℕ
challenges_text lines = challenges_from Before (field_members true lines)
