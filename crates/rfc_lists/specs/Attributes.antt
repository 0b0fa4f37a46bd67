-- What the attributes of a cookie mean (RFC 6265, section 5.2; of SameSite the draft that is to replace it,
-- draft-ietf-httpbis-rfc6265bis, section 5.6.7).
use Rattle.std.specs.Prelude.{ℕ, ◌-◌, ◌^◌, Bool, true, false, not, ◌&&◌, ◌||◌, ◌==◌, List, [], ◌∷◌, ◌++◌, length, take}
use Rattle.std.specs.Prelude.{Option, Some, None, bytes_eq, codes, decimal, is_some, nat_le, option_and_then}
use Rattle.std.specs.{Prelude.{option_map, if◌then◌else◌, unwrap_or}, Char.is_ascii_digit, List.{list_all, slice_split}}
use Rattle.{std.specs.Option.{option_map_or, option_or}, http_header.specs.Token.lowercase}
use Rattle.{headers_syntax.specs.{AsciiCase.same_name, Text.trim}, rfc_fields.specs.{Cuts.cut, Directives.equals}}
use Rattle.{rfc_fields.specs.{Grammar.semicolon, Numbers.number_within}, rfc_lists.specs.CookieDates.cookie_date}
use Rattle.rfc_lists.specs.{CookieDates.date_text, Extended.hyphen, Lines.{line, valued_line}}
use Rattle.rfc_lists.specs.declared.{cookie_dates.CookieDate.CookieDate, attributes.Known.{Known, TheVariants.Path}}
use Rattle.rfc_lists.specs.declared.attributes.Known.TheVariants.{Domain, MaxAge, Expires, Secure, HttpOnly, SameSite}

abbrev pub name_of : Known → List ℕ
name_of Path = codes "Path"
name_of Domain = codes "Domain"
name_of MaxAge = codes "Max-Age"
name_of Expires = codes "Expires"
name_of Secure = codes "Secure"
name_of HttpOnly = codes "HttpOnly"
name_of SameSite = codes "SameSite"

-- a digit or `-`, and then digits alone (section 5.2.2)
abbrev pub is_seconds : List ℕ → Bool
is_seconds [] = false
is_seconds (b ∷ text) = (b == hyphen || is_ascii_digit b) && list_all is_ascii_digit text

-- an attribute with this value counts, and isn't ignored (sections 5.2.1 to 5.2.6)
abbrev pub fits : Known → List ℕ → Bool
fits Path value = true
fits Domain value = not (length value == 0)
fits MaxAge value = is_seconds value
fits Expires value = is_some (cookie_date value)
fits Secure value = true
fits HttpOnly value = true
fits SameSite value = true

-- a name, and a value after the first `=`, which is empty if there's none: both without the blanks around them
abbrev pub attribute_in : List ℕ → List ℕ × List ℕ
attribute_in text =
    option_map_or (λ (sides : List ℕ × List ℕ). (trim sides.0, trim sides.1)) (cut equals text) (trim text, [])

-- the value of an attribute, if it has this name, in any case, and counts
abbrev pub value_of : Known → List ℕ → Option (List ℕ)
value_of known text =
    if same_name (attribute_in text).0 (name_of known) && fits known (attribute_in text).1
    then Some (attribute_in text).1 else None

-- that of the last of some attributes (section 5.3)
unfoldable pub last_in : Known → List (List ℕ) → Option (List ℕ)
last_in known [] = None
last_in known (text ∷ texts) = option_or (last_in known texts) (value_of known text)

abbrev pub last_of : Known → List ℕ → Option (List ℕ)
last_of known attributes = last_in known (slice_split (λ b. b == semicolon) attributes)

-- what begins with a slash
abbrev pub absolute : List ℕ → Option (List ℕ)
absolute [] = None
absolute (b ∷ path) = if b == 47 then Some (b ∷ path) else None

-- the path, or none for the default one: also if the last attribute of this name has no path (section 5.2.4)
abbrev pub path_of : List ℕ → Option (List ℕ)
path_of attributes = option_and_then absolute (last_of Path attributes)

-- a host, without the dot that it may begin with (section 5.2.3)
abbrev pub after_dot : List ℕ → List ℕ
after_dot [] = []
after_dot (b ∷ host) = if b == 46 then host else b ∷ host

abbrev pub some_host : List ℕ → Option (List ℕ)
some_host host = if length host == 0 then None else Some host

-- the host below which the cookie is sent, or none for the host that set it alone
abbrev pub domain_of : List ℕ → Option (List ℕ)
domain_of attributes = option_and_then (λ value. some_host (after_dot value)) (last_of Domain attributes)

-- The seconds from now on for which the cookie is stored, a number of any length (section 5.2.2): one past 2^64 - 1 is
-- that, and one below 0 is 0, which removes the cookie.
abbrev pub max_age_of : List ℕ → Option ℕ
max_age_of attributes =
    option_map (λ value. unwrap_or (number_within (2 ^ 64 - 1) value) 0) (last_of MaxAge attributes)

abbrev pub expires_of : List ℕ → Option CookieDate
expires_of attributes = option_and_then cookie_date (last_of Expires attributes)

abbrev pub has : Known → List ℕ → Bool
has known attributes = is_some (last_of known attributes)

-- one of the three words, in any case
abbrev pub enforcement : List ℕ → Option (List ℕ)
enforcement value =
    if same_name value (codes "Strict") then Some (codes "Strict")
    else (if same_name value (codes "Lax") then Some (codes "Lax")
    else (if same_name value (codes "None") then Some (codes "None") else None))

-- the word, or none for what browsers do by default: also if the last attribute of this name has another word
abbrev pub same_site_of : List ℕ → Option (List ℕ)
same_site_of attributes = option_and_then enforcement (last_of SameSite attributes)

-- ---- lines

abbrev pub path_line : List ℕ → List ℕ
path_line attributes = option_map_or (valued_line 112 (codes "Path")) (path_of attributes) []

abbrev pub domain_line : List ℕ → List ℕ
domain_line attributes =
    option_map_or (λ host. valued_line 112 (codes "Domain") (lowercase host)) (domain_of attributes) []

abbrev pub max_age_line : List ℕ → List ℕ
max_age_line attributes =
    option_map_or (λ age. valued_line 112 (codes "Max-Age") (decimal age)) (max_age_of attributes) []

abbrev pub expires_line : List ℕ → List ℕ
expires_line attributes =
    option_map_or (λ date. valued_line 112 (codes "Expires") (date_text date)) (expires_of attributes) []

abbrev pub flag_line : Known → List ℕ → List ℕ
flag_line known attributes = if has known attributes then line 110 (name_of known) else []

abbrev pub same_site_line : List ℕ → List ℕ
same_site_line attributes = option_map_or (valued_line 112 (codes "SameSite")) (same_site_of attributes) []

-- what the attributes mean
abbrev pub meaning_lines : List ℕ → List ℕ
meaning_lines attributes =
    path_line attributes ++ domain_line attributes ++ max_age_line attributes ++ expires_line attributes
    ++ flag_line Secure attributes ++ flag_line HttpOnly attributes ++ same_site_line attributes

-- ---- what browsers demand of a cookie (draft-ietf-httpbis-rfc6265bis, sections 4.1.3 and 5.7)

abbrev pub is_root : Option (List ℕ) → Bool
is_root path = option_map_or (λ text. bytes_eq text (codes "/")) path false

-- what a name that begins with `__Host-` promises
abbrev pub is_bound : List ℕ → Bool
is_bound attributes = has Secure attributes && not (is_some (domain_of attributes)) && is_root (path_of attributes)

-- in any case
abbrev pub begins_with : List ℕ → List ℕ → Bool
begins_with name prefix =
    nat_le (length prefix) (length name) && same_name (take (length prefix) name) prefix

-- each rule that a cookie of this name breaks: `r`, and a prefix or an attribute
abbrev pub secure_line : List ℕ → List ℕ → List ℕ
secure_line name attributes =
    if begins_with name (codes "__Secure-") && not (has Secure attributes) then line 114 (codes "__Secure-")
    else []

abbrev pub host_line : List ℕ → List ℕ → List ℕ
host_line name attributes =
    if begins_with name (codes "__Host-") && not (is_bound attributes) then line 114 (codes "__Host-") else []

abbrev pub is_anywhere : Option (List ℕ) → Bool
is_anywhere word = option_map_or (λ text. bytes_eq text (codes "None")) word false

abbrev pub anywhere_line : List ℕ → List ℕ
anywhere_line attributes =
    if is_anywhere (same_site_of attributes) && not (has Secure attributes) then line 114 (codes "SameSite") else []

abbrev pub broken_lines : List ℕ → List ℕ → List ℕ
broken_lines name attributes = secure_line name attributes ++ host_line name attributes ++ anywhere_line attributes
