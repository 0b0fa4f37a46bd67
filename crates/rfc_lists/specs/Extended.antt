-- Texts of parameters whose names end in `*` (RFC 8187, section 3.2.1): charset "'" [ language ] "'" value-chars
use Rattle.std.specs.Prelude.{ℕ, ◌+◌, ◌-◌, ◌*◌, Bool, false, not, ◌&&◌, ◌||◌, ◌==◌, List, [], ◌∷◌, ◌++◌, length}
use Rattle.std.specs.Prelude.{Option, Some, None, codes, nat_le, option_and_then, if◌then◌else◌}
use Rattle.std.specs.{Char.{digit_value, encode_utf8, is_ascii_alphanumeric, is_ascii_hexdigit}, Str.is_utf8}
use Rattle.std.specs.{List.{flat_map, list_all, slice_split}, Option.option_map_or}
use Rattle.{http_header.specs.Token.is_token_byte, headers_syntax.specs.AsciiCase.same_name}
use Rattle.{percent_encoding.specs.Percent.{percent_decode, percent_encode_byte}, rfc_fields.specs.Cuts.cut}

-- b'\''
abbrev pub apostrophe : ℕ
apostrophe = 39

-- b'%'
abbrev pub percent : ℕ
percent = 37

-- b'*'
abbrev pub star : ℕ
star = 42

-- b'-'
abbrev pub hyphen : ℕ
hyphen = 45

-- attr-char: a byte of a token, but for three
abbrev pub is_attr_char : ℕ → Bool
is_attr_char b = is_token_byte b && not (b == star) && not (b == apostrophe) && not (b == percent)

-- one of value-chars: an attr-char, or `%` and two hexadecimal digits
pub data ValueChar : Type 0 where
  Plain : ℕ → ValueChar
  Encoded : ℕ → ℕ → ValueChar

abbrev pub is_value_char : ValueChar → Bool
is_value_char (Plain b) = is_attr_char b
is_value_char (Encoded high low) = is_ascii_hexdigit high && is_ascii_hexdigit low

abbrev pub char_text : ValueChar → List ℕ
char_text (Plain b) = b ∷ []
char_text (Encoded high low) = percent ∷ high ∷ low ∷ []

-- the octet that is meant
abbrev pub char_octet : ValueChar → ℕ
char_octet (Plain b) = b
char_octet (Encoded high low) = 16 * digit_value high + digit_value low

-- how many hexadecimal digits are due after a byte, of how many that are due at it; none if it isn't allowed there
abbrev pub due_after : ℕ → ℕ → Option ℕ
due_after due b =
    if due == 0 then (if b == percent then Some 2 else (if is_attr_char b then Some 0 else None))
    else (if is_ascii_hexdigit b then Some (due - 1) else None)

-- the text is so many hexadecimal digits, and then value-chars
unfoldable pub are_value_chars : ℕ → List ℕ → Bool
are_value_chars due [] = due == 0
are_value_chars due (b ∷ text) = option_map_or (λ next. are_value_chars next text) (due_after due b) false

-- one to eight letters and digits
abbrev pub is_subtag : List ℕ → Bool
is_subtag text = nat_le 1 (length text) && nat_le (length text) 8 && list_all is_ascii_alphanumeric text

abbrev pub are_subtags : List ℕ → Bool
are_subtags text = list_all is_subtag (slice_split (λ b. b == hyphen) text)

-- a language, if there is one: subtags with a hyphen between any two, as each of RFC 5646, section 2.1, has
abbrev pub is_language : List ℕ → Bool
is_language text = length text == 0 || are_subtags text

abbrev pub utf8_text : List ℕ → Option (List ℕ)
utf8_text octets = if is_utf8 octets then Some octets else None

-- the text, in UTF-8, that octets are in a charset: each octet is one character of ISO-8859-1
abbrev pub text_in : List ℕ → List ℕ → Option (List ℕ)
text_in charset octets =
    if same_name charset (codes "UTF-8") then utf8_text octets
    else (if same_name charset (codes "ISO-8859-1") then Some (flat_map encode_utf8 octets) else None)

-- the same of what follows a charset and its apostrophe
abbrev pub decoded_in : List ℕ → List ℕ × List ℕ → Option (List ℕ)
decoded_in charset sides =
    if is_language sides.0 && are_value_chars 0 sides.1 then text_in charset (percent_decode sides.1) else None

abbrev pub text_after : List ℕ × List ℕ → Option (List ℕ)
text_after sides = option_and_then (decoded_in sides.0) (cut apostrophe sides.1)

-- the text that a value means, if it is an ext-value in one of the two charsets
abbrev pub extended_text : List ℕ → Option (List ℕ)
extended_text value = option_and_then text_after (cut apostrophe value)

-- an octet among value-chars
abbrev pub encoded : ℕ → List ℕ
encoded b = if is_attr_char b then b ∷ [] else percent_encode_byte b

-- a text in UTF-8 as an ext-value
abbrev pub extended_value : List ℕ → List ℕ
extended_value text = codes "UTF-8''" ++ flat_map encoded text
