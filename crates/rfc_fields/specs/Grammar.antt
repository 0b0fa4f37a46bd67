-- RFC 9110, section 5.6: quoted-strings, and lists.
use Rattle.std.specs.{Prelude.{◌≡◌, ℕ, Bool, true, false, ◌&&◌, ◌==◌, not, List, [], ◌∷◌, ◌++◌}, List.flat_map}
use Rattle.{std.specs.List.list_all, http_header.specs.Token.is_value_byte}

-- DQUOTE
abbrev pub quote : ℕ
quote = 34

-- b'\\'
abbrev pub backslash : ℕ
backslash = 92

-- b','
abbrev pub comma : ℕ
comma = 44

-- b';'
abbrev pub semicolon : ℕ
semicolon = 59

-- b' '
abbrev pub space : ℕ
space = 32

-- One octet between two quotes, as it is in the text. A quoted-string (section 5.6.4) has qdtext, which is any byte of
-- a field but a quote and a backslash, and quoted-pairs, a backslash before any byte of a field. An opaque-tag (section
-- 8.8.3) has no quoted-pairs, and a backslash in it is a byte like any other.
pub data Octet : Type 0 where
  Plain : ℕ → Octet
  Pair : ℕ → Octet

-- the octet is one of a quoted-string if there are quoted-pairs, and one of an opaque-tag otherwise
abbrev pub is_octet : Bool → Octet → Bool
is_octet pairs (Plain b) = is_value_byte b && not (b == quote) && not (pairs && b == backslash)
is_octet pairs (Pair b) = pairs && is_value_byte b

abbrev pub octet_text : Octet → List ℕ
octet_text (Plain b) = b ∷ []
octet_text (Pair b) = backslash ∷ b ∷ []

-- the octet that is meant: a recipient replaces a quoted-pair by the octet after the backslash
abbrev pub octet_value : Octet → ℕ
octet_value (Plain b) = b
octet_value (Pair b) = b

-- one part of a list's element: a byte of a field other than a quote and the separator, or octets between two quotes
pub data Part : Type 0 where
  Byte : ℕ → Part
  Quoted : List Octet → Part

abbrev pub is_bare : ℕ → ℕ → Bool
is_bare separator b = is_value_byte b && not (b == quote) && not (b == separator)

abbrev pub is_part : ℕ → Bool → Part → Bool
is_part separator pairs (Byte b) = is_bare separator b
is_part separator pairs (Quoted octets) = list_all (is_octet pairs) octets

abbrev pub part_text : Part → List ℕ
part_text (Byte b) = b ∷ []
part_text (Quoted octets) = quote ∷ (flat_map octet_text octets ++ quote ∷ [])

-- an element of a list, with the blanks around it; it may be empty
abbrev pub Element : Type 0
Element = List Part

abbrev pub is_element : ℕ → Bool → Element → Bool
is_element separator pairs parts = list_all (is_part separator pairs) parts

abbrev pub element_text : Element → List ℕ
element_text parts = flat_map part_text parts

-- the elements e and es, with a separator between any two
abbrev pub list_text : ℕ → Element → List Element → List ℕ
list_text separator e [] = element_text e
list_text separator e (f ∷ es) = element_text e ++ separator ∷ list_text separator f es

-- a list as the grammar has it: [ element ] *( OWS "," OWS [ element ] ) (section 5.6.1). With a semicolon,
-- it's a value and its parameters (section 5.6.6).
pub record IsList (separator : ℕ) (pairs : Bool) (s : List ℕ) : Type 0 where
  pub first : Element
  pub others : List Element
  pub valid : list_all (is_element separator pairs) (first ∷ others) ≡ true
  pub text : s ≡ list_text separator first others

-- a byte of a field other than a quote
pub record IsSeparator (b : ℕ) : Type 0 where
  pub value : is_value_byte b ≡ true
  pub not_quote : (b == quote) ≡ false
  pub quote_not : (quote == b) ≡ false
