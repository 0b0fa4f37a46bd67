-- Language ranges and tags (RFC 9110, section 12.5.4; RFC 4647).
use Rattle.std.specs.Prelude.{ℕ, Bool, ◌&&◌, ◌==◌, true, false, List, [], ◌∷◌, length, Option, Some, None}
use Rattle.std.specs.Prelude.{codes, option_and_then, if◌then◌else◌}
use Rattle.{http_header.specs.Token.lowercase, rfc_fields.specs.Scan.{Member, Member.{Whole, Malformed}}}
use Rattle.decide_negotiation.specs.Elements.{ElementParts, bare_element_of}
use Rattle.decide_negotiation.specs.{MediaRanges.is_star, declared.preference.Preference.Preference}

-- b'-'
abbrev pub hyphen : ℕ
hyphen = 45

-- the first text is the second, or a prefix of it before a hyphen
abbrev pub is_front : List ℕ → List ℕ → Bool
is_front [] [] = true
is_front [] (b ∷ text) = b == hyphen
is_front (a ∷ front) [] = false
is_front (a ∷ front) (b ∷ text) = a == b && is_front front text

-- Basic filtering (RFC 4647, section 3.3.1): a range matches a tag if the tag is equal to it, in any case, or begins
-- with it and a hyphen.
abbrev pub covers : List ℕ → List ℕ → Bool
covers range tag = is_front (lowercase range) (lowercase tag)

-- a star matches each tag, and any other range the tags that it covers; of two ranges the longer is more specific
abbrev pub says_of : List ℕ → ElementParts → Option Preference
says_of tag e =
    if is_star e.range then Some (record { names = 0; extent = 0; quality = e.weight })
    else (if covers e.range tag then Some (record { names = 1; extent = length e.range; quality = e.weight }) else None)

-- the element that a member counts as, if it counts; one whose quote has no end is the range of all tags, as in Accept
abbrev pub language_element_of : Member → Option ElementParts
language_element_of (Whole text) = bare_element_of (Whole text)
language_element_of Malformed = bare_element_of (Whole (codes "*;q=0.001"))

abbrev pub language_says : List ℕ → Member → Option Preference
language_says tag member = option_and_then (says_of tag) (language_element_of member)
