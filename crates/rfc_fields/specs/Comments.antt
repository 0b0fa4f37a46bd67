-- RFC 9110, section 5.6.5: comment = "(" *( ctext / quoted-pair / comment ) ")"
use Rattle.std.specs.Prelude.{◌≡◌, ℕ, Bool, true, ◌&&◌, ◌==◌, not, List, [], ◌∷◌, ◌++◌}
use Rattle.{http_header.specs.Token.is_value_byte, rfc_fields.specs.Grammar.backslash}

-- b'('
abbrev pub open_paren : ℕ
open_paren = 40

-- b')'
abbrev pub close_paren : ℕ
close_paren = 41

-- what a comment has between its parentheses: ctext, quoted-pairs and comments
pub data Content : Type 0 where
  Nothing : Content
  Text : ℕ → Content → Content
  Pair : ℕ → Content → Content
  Inner : Content → Content → Content

-- any byte of a field but a parenthesis and a backslash
abbrev pub is_ctext : ℕ → Bool
is_ctext b = is_value_byte b && not (b == open_paren) && not (b == close_paren) && not (b == backslash)

abbrev pub is_content : Content → Bool
is_content Nothing = true
is_content (Text b next) = is_ctext b && is_content next
is_content (Pair b next) = is_value_byte b && is_content next
is_content (Inner inner next) = is_content inner && is_content next

abbrev pub content_text : Content → List ℕ
content_text Nothing = []
content_text (Text b next) = b ∷ content_text next
content_text (Pair b next) = backslash ∷ b ∷ content_text next
content_text (Inner inner next) = open_paren ∷ (content_text inner ++ close_paren ∷ content_text next)

-- the text begins with a comment, and the rest follows it
pub record HasComment (text rest : List ℕ) : Type 0 where
  pub content : Content
  pub valid : is_content content ≡ true
  pub written : text ≡ open_paren ∷ (content_text content ++ close_paren ∷ rest)

-- a text begins with at most one comment
abbrev pub CommentsParseOneWay : Type 0
CommentsParseOneWay = (text rest other : List ℕ) → HasComment text rest → HasComment text other → rest ≡ other
