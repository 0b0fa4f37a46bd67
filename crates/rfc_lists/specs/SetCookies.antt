-- Cookies to be set (RFC 6265, section 5.2).
use Rattle.std.specs.Prelude.{ℕ, Bool, false, not, ◌&&◌, ◌||◌, ◌==◌, List, [], ◌∷◌, ◌++◌, length, if◌then◌else◌}
use Rattle.std.specs.{Prelude.unwrap_or, List.{flat_map, slice_split}, Option.option_map_or}
use Rattle.{headers_syntax.specs.{AsciiCase.same_name, Lines.Line, Text.trim}, rfc_fields.specs.Cuts.cut}
use Rattle.{rfc_fields.specs.{Directives.equals, Grammar.semicolon}, rfc_lists.specs.Attributes.attribute_in}
use Rattle.rfc_lists.specs.{Attributes.{broken_lines, meaning_lines, name_of}, Lines.{line, malformed_line}}
use Rattle.rfc_lists.specs.{Lines.valued_line, declared.attributes.Known.TheVariants.{Path, Domain, MaxAge, Expires}}
use Rattle.rfc_lists.specs.declared.attributes.Known.TheVariants.{Secure, HttpOnly, SameSite}

-- a name and a value around the first `=`, or a name alone, without the blanks around them
abbrev pub pair_line : List ℕ → List ℕ
pair_line pair =
    option_map_or (λ (sides : List ℕ × List ℕ). valued_line 112 (trim sides.0) (trim sides.1)) (cut equals pair)
    (line 110 (trim pair))

-- there is a name before an `=`
abbrev pub has_name : List ℕ → Bool
has_name pair =
    option_map_or (λ (sides : List ℕ × List ℕ). not (length (trim sides.0) == 0)) (cut equals pair) false

-- one of the names that mean something
abbrev pub is_known : List ℕ → Bool
is_known name =
    same_name name (name_of Path) || same_name name (name_of Domain) || same_name name (name_of MaxAge)
    || same_name name (name_of Expires) || same_name name (name_of Secure) || same_name name (name_of HttpOnly)
    || same_name name (name_of SameSite)

-- an attribute that has another name
abbrev pub is_other : List ℕ → Bool
is_other name = not (length name == 0) && not (is_known name)

abbrev pub other_line : List ℕ → List ℕ
other_line text = if is_other (attribute_in text).0 then pair_line text else []

-- the attributes that mean nothing, as they are
abbrev pub other_lines : List ℕ → List ℕ
other_lines attributes = flat_map other_line (slice_split (λ b. b == semicolon) attributes)

-- the name and the value, what the attributes mean, the others, and the rules that the cookie breaks
abbrev pub cookie_lines : List ℕ → List ℕ → List ℕ
cookie_lines pair attributes =
    if has_name pair
    then pair_line pair ++ meaning_lines attributes ++ other_lines attributes
    ++ broken_lines (attribute_in pair).0 attributes
    else malformed_line

-- what is before the first semicolon of a line, and after it
abbrev pub sides_of : Line → List ℕ × List ℕ
sides_of text = unwrap_or (cut semicolon text) (text, [])

abbrev pub shown_cookie : Line → List ℕ
shown_cookie text = cookie_lines (sides_of text).0 (sides_of text).1 ++ 10 ∷ []

abbrev pub set_cookies_text : List Line → List ℕ
set_cookies_text lines = flat_map shown_cookie lines
