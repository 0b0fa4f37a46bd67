-- Entity tags and their comparison (RFC 9110, sections 8.8.3 and 8.8.3.2).
use Rattle.std.specs.Prelude.{◌≡◌, ◌≢◌, ℕ, ◌-◌, Bool, true, false, ◌&&◌, ◌||◌, ◌==◌, nat_le, List, [], ◌∷◌, ◌++◌}
use Rattle.std.specs.Prelude.{take, drop, length, slice_index, bytes_eq, if◌then◌else◌, codes, Option, MatchOption}
use Rattle.std.specs.List.{list_all}
use denote.Ref.{Bor}
use Rattle.http_header.specs.Token.{AllPass}
use Rattle.headers_syntax.specs.Text.{quote}

-- a byte that is allowed between the quotes of a tag: 0x21, 0x23 to 0x7E, or 0x80 and above
abbrev pub is_tag_byte : ℕ → Bool
is_tag_byte b = b == 0x21 || ((nat_le 0x23 b && nat_le b 0x7E) || nat_le 0x80 b)

-- the parts of a tag: whether it is weak, and the opaque part between its quotes
pub record TagParts : Type 0 where
  pub is_weak : Bool
  pub opaque : List ℕ

-- what is before the first quote: `W/`, with an upper case W, if the tag is weak
abbrev pub weak_prefix : Bool → List ℕ
weak_prefix is_weak = if is_weak then codes "W/" else []

-- the text of a tag with these parts
abbrev pub tag_text : TagParts → List ℕ
tag_text parts = weak_prefix parts.is_weak ++ quote ∷ (parts.opaque ++ quote ∷ [])

-- the bytes, all of them, are a tag with these parts
pub record IsTag (bytes : List ℕ) (parts : TagParts) : Type 0 where
  pub text : bytes ≡ tag_text parts
  pub opaque : AllPass is_tag_byte parts.opaque

-- the bytes are a tag
abbrev pub IsSomeTag : List ℕ → Type 0
IsSomeTag bytes = (parts : TagParts) × IsTag bytes parts

-- Whether the bytes are a tag, as a test: take the parts that a tag with this first byte and this length has; the bytes
-- are the text of these parts.
abbrev pub between_quotes : List ℕ → List ℕ
between_quotes bytes = take (length bytes - 2) (drop 1 bytes)

-- 87 is b'W'
abbrev pub parts_of : List ℕ → TagParts
parts_of bytes =
    if slice_index bytes 0 == 87
    then record { is_weak = true; opaque = between_quotes (drop 2 bytes) }
    else record { is_weak = false; opaque = between_quotes bytes }

unfoldable pub is_tag : List ℕ → Bool
is_tag bytes = bytes_eq bytes (tag_text (parts_of bytes)) && list_all is_tag_byte (parts_of bytes).opaque

-- neither is weak, and their opaque parts are equal
pub record StronglyEqual (s t : TagParts) : Type 0 where
  pub left : s.is_weak ≡ false
  pub right : t.is_weak ≡ false
  pub opaque : s.opaque ≡ t.opaque

-- their opaque parts are equal
abbrev pub WeaklyEqual : TagParts → TagParts → Type 0
WeaklyEqual s t = s.opaque ≡ t.opaque

-- both lists of bytes are tags, and R holds of their parts
abbrev pub AreTags : (TagParts → TagParts → Type 0) → List ℕ → List ℕ → Type 0
AreTags R a b = (s : TagParts) × (t : TagParts) × IsTag a s × IsTag b t × R s t

-- the result is the parts of the bytes if they are a tag, and `None` if they are not
abbrev pub FindsTag : List ℕ → Option TagParts → Type 0
FindsTag bytes found = MatchOption found (¬ (IsSomeTag bytes)) (IsTag bytes)

-- the bytes are a quote, the result, and a quote; the result is `None` if they have no such shape
abbrev pub FindsQuoted : List ℕ → Option (Bor (List ℕ)) → Type 0
FindsQuoted bytes found =
    MatchOption found ((inner : List ℕ) → bytes ≢ quote ∷ (inner ++ quote ∷ []))
    (λ inner. bytes ≡ quote ∷ (inner.now ++ quote ∷ []))
