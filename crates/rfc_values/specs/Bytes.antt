-- The bytes of structured fields (RFC 8941, section 3).
use Rattle.std.specs.Prelude.{ℕ, Bool, ◌&&◌, ◌||◌, ◌==◌, not, nat_le, List, [], ◌∷◌, length, ◌-◌, take, if◌then◌else◌}
use Rattle.{std.specs.Char.is_ascii_digit, http_header.specs.Token.is_token_byte}
use Rattle.rfc_values.specs.declared.bytes.Class.{Class, TheVariants.{Base64, Blank, Digit, Key, Space, Token}}

abbrev pub is_lowercase : ℕ → Bool
is_lowercase b = nat_le 97 b && nat_le b 122

abbrev pub is_uppercase : ℕ → Bool
is_uppercase b = nat_le 65 b && nat_le b 90

-- ALPHA
abbrev pub is_letter : ℕ → Bool
is_letter b = is_lowercase b || is_uppercase b

-- a key begins with a lower-case letter or `*` (section 3.1.2)
abbrev pub begins_key : ℕ → Bool
begins_key b = is_lowercase b || b == 42

-- a token begins with a letter or `*` (section 3.3.4)
abbrev pub begins_token : ℕ → Bool
begins_token b = is_letter b || b == 42

-- The byte is of this class: of those after the first one in a key, lower-case letters, digits and `_-.*`; of those
-- after the first one in a token, those of RFC 9110 and `:/`; of base64, letters, digits and `+/=` (section 3.3.5).
-- A space is SP, and a blank SP or HTAB.
abbrev pub is_in : Class → ℕ → Bool
is_in Key b = is_lowercase b || is_ascii_digit b || b == 95 || b == 45 || b == 46 || b == 42
is_in Token b = is_token_byte b || b == 58 || b == 47
is_in Base64 b = is_letter b || is_ascii_digit b || b == 43 || b == 47 || b == 61
is_in Digit b = is_ascii_digit b
is_in Space b = b == 32
is_in Blank b = b == 32 || b == 9

-- a byte of a string that is no quote and no backslash: SP to `~` (section 3.3.3)
abbrev pub is_printable : ℕ → Bool
is_printable b = nat_le 32 b && nat_le b 126

-- what follows the bytes of this class with which a text begins, as many as there are
unfoldable pub after_run : Class → List ℕ → List ℕ
after_run class [] = []
after_run class (b ∷ s) = if is_in class b then after_run class s else b ∷ s

-- what a text has before this end of it
abbrev pub before : List ℕ → List ℕ → List ℕ
before text rest = take (length text - length rest) text
