-- Links (RFC 8288, section 3): a target between angle brackets, and parameters.
use Rattle.std.specs.Prelude.{ℕ, ◌+◌, Bool, true, false, ◌&&◌, ◌==◌, List, [], ◌∷◌, ◌++◌, length, take, drop, Option}
use Rattle.std.specs.{Prelude.{Some, None, codes, nat_lt, if◌then◌else◌}, List.{flat_map, slice_split}}
use Rattle.{std.specs.Option.option_map_or, http_header.specs.Token.lowercase, headers_syntax.specs.Lines.Line}
use Rattle.{headers_syntax.specs.Text.trim, rfc_fields.specs.{Cuts.cut, Grammar.{backslash, comma, quote, space}}}
use Rattle.rfc_fields.specs.{Members.members_of, Scan.{Member, Member.{Whole, Malformed}}}
use Rattle.rfc_lists.specs.{Lines.{between_semicolons, line, malformed_line, parameter_line}, Named.first_octets}
use Rattle.rfc_lists.specs.{Named.named_line, declared.links.Place.{Place, TheVariants.{Outside, Bracketed, Quoted}}}
use Rattle.rfc_lists.specs.declared.links.Place.TheVariants.{Escaped}

-- where the byte after this one is
abbrev pub after : Place → ℕ → Place
after Outside b = if b == 60 then Bracketed else (if b == quote then Quoted else Outside)
after Bracketed b = if b == 62 then Outside else Bracketed
after Quoted b = if b == quote then Outside else (if b == backslash then Escaped else Quoted)
after Escaped b = Quoted

abbrev pub is_outside : Place → Bool
is_outside Outside = true
is_outside Bracketed = false
is_outside Quoted = false
is_outside Escaped = false

-- a comma here is between two links
abbrev pub separates : Place → ℕ → Bool
separates place b = b == comma && is_outside place

-- a byte before the first of some texts
abbrev pub onto : ℕ → List (List ℕ) → List (List ℕ)
onto b [] = []
onto b (text ∷ texts) = (b ∷ text) ∷ texts

-- a text, whose first byte is at that place, cut at each comma that is neither between brackets nor between quotes
unfoldable pub links_from : Place → List ℕ → List (List ℕ)
links_from place [] = [] ∷ []
links_from place (b ∷ text) =
    if separates place b then [] ∷ links_from Outside text else onto b (links_from (after place b) text)

-- how many bytes are before the first such comma, or in all
unfoldable pub link_len : Place → List ℕ → ℕ
link_len place [] = 0
link_len place (b ∷ text) = if separates place b then 0 else 1 + link_len (after place b) text

-- what is before that comma, and after it, if there is one
abbrev pub cut_link : List ℕ → Option (List ℕ × List ℕ)
cut_link text =
    if nat_lt (link_len Outside text) (length text) then
    Some (take (link_len Outside text) text, drop (link_len Outside text + 1) text)
    else None

-- ---- relation types (section 3.3)

-- `l` and a relation type, whose case doesn't count
abbrev pub relation_line : List ℕ → List ℕ
relation_line text = if length text == 0 then [] else line 108 (lowercase text)

-- those between spaces
abbrev pub relation_lines : List ℕ → List ℕ
relation_lines text = flat_map relation_line (slice_split (λ b. b == space) text)

-- ---- links

-- each parameter, the relation types of the first `rel` (later ones are ignored), and the title (section 3.4.1)
abbrev pub parameter_lines : List Member → List ℕ
parameter_lines members =
    flat_map (parameter_line true) members ++ option_map_or relation_lines (first_octets (codes "rel") members) []
    ++ named_line (codes "title") (codes "title*") members

-- what follows a target: nothing before the first semicolon, and parameters after it
abbrev pub piece_lines : List Member → List ℕ
piece_lines [] = malformed_line
piece_lines (Whole first ∷ others) =
    if length (trim first) == 0 then parameter_lines (members_of others) else malformed_line
piece_lines (Malformed ∷ others) = malformed_line

abbrev pub parameters_text : List ℕ → List ℕ
parameters_text rest = piece_lines (between_semicolons rest)

-- a target before a `>`, and the parameters after it
abbrev pub target_text : List ℕ → List ℕ
target_text rest =
    option_map_or (λ (sides : List ℕ × List ℕ). line 118 sides.0 ++ parameters_text sides.1) (cut 62 rest)
    malformed_line

-- the same behind a `<`
abbrev pub opened : ℕ → List ℕ → List ℕ
opened first rest = if first == 60 then target_text rest else malformed_line

-- a link and an empty line, or nothing if there's no text
abbrev pub link_text : List ℕ → List ℕ
link_text [] = []
link_text (first ∷ rest) = opened first rest ++ 10 ∷ []

abbrev pub line_text : Line → List ℕ
line_text text = flat_map (λ link. link_text (trim link)) (links_from Outside text)

abbrev pub links_text : List Line → List ℕ
links_text lines = flat_map line_text lines
