-- Tokens, quoted-strings and what they mean (RFC 9110, sections 5.6.2 and 5.6.4).
use Rattle.std.specs.Prelude.{◌≡◌, ℕ, Bool, true, false, ◌&&◌, ◌==◌, not, List, [], ◌∷◌, ◌++◌, length, Option, None}
use Rattle.std.specs.{Prelude.{Some, if◌then◌else◌}, Option.option_map_or, List.list_all}
use Rattle.{http_header.specs.Token.{is_token_byte, is_value_byte}, rfc_fields.specs.Grammar.{quote, backslash}}
use Rattle.rfc_fields.specs.{Grammar.{is_octet, Octet.Plain}, declared.values.Value.Value}

-- token = 1*tchar
abbrev pub is_token : List ℕ → Bool
is_token s = not (length s == 0) && list_all is_token_byte s

-- qdtext
abbrev pub is_qdtext : ℕ → Bool
is_qdtext b = is_octet true (Plain b)

-- whether the next byte is escaped, so whether it follows the backslash of a quoted-pair; none if this byte is not
-- allowed here. The flag says whether this byte is escaped.
abbrev pub escape_after : Bool → ℕ → Option Bool
escape_after false b = if b == backslash then Some true else (if is_qdtext b then Some false else None)
escape_after true b = if is_value_byte b then Some false else None

-- the text is qdtext and quoted-pairs; if the flag is set, its first byte is escaped
unfoldable pub is_quoted_text : Bool → List ℕ → Bool
is_quoted_text escaped [] = not escaped
is_quoted_text escaped (b ∷ s) = option_map_or (λ next. is_quoted_text next s) (escape_after escaped b) false

-- a backslash that isn't escaped
abbrev pub is_skipped : Bool → ℕ → Bool
is_skipped escaped b = not escaped && b == backslash

-- the octets that are meant, each quoted-pair as the octet after its backslash; the flag as above
unfoldable pub octets_from : Bool → List ℕ → List ℕ
octets_from escaped [] = []
octets_from escaped (b ∷ s) = if is_skipped escaped b then octets_from true s else b ∷ octets_from false s

-- a value in one of its two forms: a token, or what is between the quotes of a quoted-string
pub data ValueParts : Type 0 where
  TokenText : List ℕ → ValueParts
  QuotedText : List ℕ → ValueParts

-- ( token / quoted-string )
abbrev pub is_value : ValueParts → Bool
is_value (TokenText s) = is_token s
is_value (QuotedText s) = is_quoted_text false s

-- the value as it is in a field line
abbrev pub value_text : ValueParts → List ℕ
value_text (TokenText s) = s
value_text (QuotedText s) = quote ∷ (s ++ quote ∷ [])

-- the octets that it means, which are the same in both forms
abbrev pub octets_of : ValueParts → List ℕ
octets_of (TokenText s) = s
octets_of (QuotedText s) = octets_from false s

-- the text, all of it, is that value
pub record IsValue (text : List ℕ) (v : ValueParts) : Type 0 where
  pub valid : is_value v ≡ true
  pub written : text ≡ value_text v

-- the parts of a `Value`
abbrev pub value_parts : Value → ValueParts
value_parts (Value.Token s) = TokenText s.now
value_parts (Value.Quoted s) = QuotedText s.now

-- what an iterator over octets has left: a text, and whether its backslashes begin quoted-pairs
pub record OctetsState : Type 0 where
  pub rest : List ℕ
  pub is_quoted : Bool

-- the octets of a text. If the second flag is set, the text has quoted-pairs, and if the first flag is set as well, its
-- first byte is escaped.
abbrev pub octets_after : Bool → Bool → List ℕ → List ℕ
octets_after escaped is_quoted s = if is_quoted then octets_from escaped s else s

abbrev pub octets_left : OctetsState → List ℕ
octets_left s = octets_after false s.is_quoted s.rest
