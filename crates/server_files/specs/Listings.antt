-- The names in a folder, and the page that lists them.
use Rattle.std.specs.Prelude.{ℕ, ◌-◌, Bool, true, not, ◌&&◌, ◌||◌, ◌==◌, List, [], ◌∷◌, ◌++◌, bytes_eq, codes, filter}
use Rattle.std.specs.{Prelude.{flat_map, if◌then◌else◌, length, string_bytes, take, String}, Char.is_ascii_alphanumeric}
use Rattle.{std.specs.List.{list_all, list_any, slice_split}, percent_encoding.specs.Percent.percent_encode_byte}
use Rattle.server_files.specs.{Pages.page_with, Path.{ends_in_slash, is_name}}

-- ---- names

-- the name without the slash (47) that ends that of a folder
abbrev pub own_name : List ℕ → List ℕ
own_name name = if ends_in_slash name then take (length name - 1) name else name

-- The name may be listed: it is one that a store may have, so it isn't hidden, and the path of a URI can name it.
abbrev pub is_listable : List ℕ → Bool
is_listable name = is_name (own_name name) && list_all (λ byte. not (byte == 47)) (own_name name)

-- those of the names that may be listed
abbrev pub listable : {A : Type 0} → List (String A) → List (String A)
listable names = filter (λ name. is_listable (string_bytes name)) names

-- ---- text in HTML

-- What a byte is in a text of HTML: the five that have a meaning there are references to characters.
abbrev pub shown_byte : ℕ → List ℕ
shown_byte byte =
    if byte == 38 then codes "&amp;"
    else (if byte == 60 then codes "&lt;"
    else (if byte == 62 then codes "&gt;"
    else (if byte == 34 then codes "&quot;" else (if byte == 39 then codes "&#39;" else byte ∷ []))))

abbrev pub shown : List ℕ → List ℕ
shown text = flat_map shown_byte text

-- one of `"`, `'`, `<` and `>`, which may end an element or the value of an attribute
abbrev pub is_markup : ℕ → Bool
is_markup byte = (byte == 34 || byte == 39) || (byte == 60 || byte == 62)

-- one of the references, without its ampersand, begins here
abbrev pub begins_reference : List ℕ → Bool
begins_reference text =
    list_any (λ reference. bytes_eq (take (length reference) text) reference)
    (codes "amp;" ∷ codes "lt;" ∷ codes "gt;" ∷ codes "quot;" ∷ codes "#39;" ∷ [])

-- no markup is in the text, and each ampersand (38) begins one of the references
abbrev pub is_escaped : List ℕ → Bool
is_escaped [] = true
is_escaped (byte ∷ text) =
    (not (is_markup byte) && (not (byte == 38) || begins_reference text)) && is_escaped text

-- ---- links

-- a letter, a digit, `-`, `.`, `_` or `~` (RFC 3986, section 2.3)
abbrev pub is_unreserved : ℕ → Bool
is_unreserved byte = is_ascii_alphanumeric byte || (byte == 45 || byte == 46 || (byte == 95 || byte == 126))

-- a byte of a name in a link: percent-encoded, unless it is unreserved, or the slash that ends the name of a folder
abbrev pub link_byte : ℕ → List ℕ
link_byte byte = if is_unreserved byte || (byte == 47) then byte ∷ [] else percent_encode_byte byte

abbrev pub link : List ℕ → List ℕ
link name = flat_map link_byte name

-- ---- the page

-- the line of a name: a link to it
abbrev pub item : List ℕ → List ℕ
item name = codes "<li><a href=\"" ++ link name ++ codes "\">" ++ shown name ++ codes "</a>\n"

-- The page that lists these names in a folder, whose path below the root is empty or ends in a slash. The first link
-- leads to the folder above.
abbrev pub listing_page : List ℕ → List (List ℕ) → List ℕ
listing_page folder names =
    page_with (codes "Index of /" ++ shown folder) ++ codes "<ul>\n" ++ flat_map item (codes "../" ∷ names)
    ++ codes "</ul>\n"

-- every second one, from the second on
abbrev pub seconds : List (List ℕ) → List (List ℕ)
seconds [] = []
seconds (part ∷ []) = []
seconds (part ∷ second ∷ parts) = second ∷ seconds parts

-- the values of attributes: what stands between the quotes (34) of a page
abbrev pub quoted : List ℕ → List (List ℕ)
quoted text = seconds (slice_split (λ byte. byte == 34) text)
