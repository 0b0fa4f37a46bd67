-- Entity tags of bytes in memory.
use Rattle.{std.specs.Prelude.{ℕ, false, List}, sha2.specs.Sha256.sha256, hex.specs.Hex.encode_lower}
use Rattle.headers.specs.EntityTag.{tag_text}

-- the digits of a content's SHA-256
unfoldable pub content_digest : List ℕ → List ℕ
content_digest content = encode_lower (sha256 content)

-- an entity tag as it is written: strong, with these digits
abbrev pub strong_tag : List ℕ → List ℕ
strong_tag digits = tag_text (record { is_weak = false; opaque = digits })
