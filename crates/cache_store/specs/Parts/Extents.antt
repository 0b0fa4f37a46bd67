-- Continuous parts of the content of a representation (RFC 9110, sections 8.8.1 and 14.4).
use Rattle.std.specs.Prelude.{[], ◌&&◌, ◌++◌, ◌+◌, ◌-◌, ◌<◌, ◌^◌, ◌∷◌, ◌≡◌, ◌≤◌, Bool, List, nat_le, nat_lt, not, ℕ}
use Rattle.std.specs.Prelude.{codes, decimal, drop, length, max, min, None, Option, option_and_then, Some, take}
use Rattle.std.specs.Prelude.{if◌then◌else◌}
use Rattle.headers.specs.ContentBytes.{content_bytes, content_text, ContentBytes}
use Rattle.headers.specs.{EntityTag.is_tag, LineMap.{Field, LineMap}, Lines.{Line, only_line}}
use Rattle.{cache_policy.specs.Updating.{is_weak, tag_in}, cache_store.specs.declared.parts.extent.Extent.Extent}

-- ---- the bytes of a part

-- how many bytes a part has
abbrev pub size : Extent → ℕ
size extent = extent.last + 1 - extent.first

-- the bytes of a representation from one position to another, both included
abbrev pub bytes_between : ℕ → ℕ → List ℕ → List ℕ
bytes_between first last bytes = take (last + 1 - first) (drop first bytes)

-- These bytes are the part of the representation: it is as long as the part says, and has them there.
pub record IsOf (representation : List ℕ) (extent : Extent) (bytes : List ℕ) : Type 0 where
  pub ordered : extent.first ≤ extent.last
  pub within : extent.last < extent.len
  pub whole : extent.len ≡ length representation
  pub same : bytes ≡ bytes_between extent.first extent.last representation

-- ---- two parts

-- no position lies between the two parts: they overlap, or one begins where the other ends
pub record Touch (one other : Extent) : Type 0 where
  pub before : one.first ≤ other.last + 1
  pub after : other.first ≤ one.last + 1

-- the part of both, if they touch
abbrev pub joint : Extent → Extent → Extent
joint one other = record { first = min one.first other.first; last = max one.last other.last; len = one.len }

-- The bytes of both, if they touch: those of the old part before the new one, the new one, and those of the old one
-- after it.
abbrev pub joined : Extent → List ℕ → Extent → List ℕ → List ℕ
joined old own new other = take (new.first - old.first) own ++ (other ++ drop (new.last + 1 - old.first) own)

-- the part is the whole representation
abbrev pub is_whole : Extent → Bool
is_whole extent = nat_le extent.first 0 && nat_le extent.len (extent.last + 1)

-- ---- what fields say

-- the greatest number, which also means all that are greater
abbrev pub greatest : ℕ
greatest = 2 ^ 64 - 1

-- the positions are in order, and lie within a whole of this length
abbrev pub is_extent : ℕ → ℕ → ℕ → Bool
is_extent first last len = nat_le first last && (nat_lt last len && nat_lt len greatest)

-- a first and a last position in a whole of a known length
abbrev pub extent_by : Option (ℕ × ℕ) → Option ℕ → Option Extent
extent_by (Some (first, last)) (Some len) =
    if is_extent first last len then Some (record { first = first; last = last; len = len }) else None
extent_by None length = None
extent_by (Some range) None = None

-- The part that a message carries: the only line of its Content-Range names two positions and the length of the whole,
-- in bytes.
abbrev pub extent_in : LineMap → Option Extent
extent_in message =
    option_and_then (λ (content : ContentBytes). extent_by content.range content.length)
    (option_and_then content_bytes (only_line (message (codes "content-range"))))

-- what Content-Range says of a part
abbrev pub range_line : Extent → Line
range_line extent = content_text (record { range = Some (extent.first, extent.last); length = Some extent.len })

-- The fields by which a part is recorded: Content-Range says which part it is, unless it is the whole, and
-- Content-Length how long the whole is (RFC 9110, section 15.3.7.3).
abbrev pub extent_fields : Extent → List Field
extent_fields extent =
    (codes "content-range", if is_whole extent then [] else range_line extent ∷ [])
    ∷ (codes "content-length", decimal extent.len ∷ [])
    ∷ []

-- The strong validator of a message: the only line of its ETag, if that is an entity tag and isn't weak. A date isn't
-- one here (section 8.8.2.2).
abbrev pub strong_tag : LineMap → Option Line
strong_tag message =
    option_and_then (λ tag. if is_tag tag && not (is_weak tag) then Some tag else None) (tag_in message)
