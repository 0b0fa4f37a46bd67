-- The part of a representation that a message carries, in bytes (RFC 9110, section 14.4).
use Rattle.std.specs.Prelude.{◌≡◌, ℕ, ◌+◌, ◌^◌, ◌<◌, ◌++◌, Bool, true, ◌∷◌, nat_lt, nat_le, Option, Some, None}
use Rattle.std.{specs.Prelude.{option_map, codes, decimal, bytes_eq, if◌then◌else◌}, specs.Option.option_and_then}
use Rattle.std.{specs.Option.option_zip, specs.declared.ops.Bound.Bound, specs.declared.ops.Bound.TheVariants.Included}
use Rattle.std.specs.declared.ops.Bound.TheVariants.{Excluded, Unbounded}
use Rattle.headers_syntax.{specs.Lines.Line, specs.Number.number, specs.Text.is_text}
use Rattle.headers_ranges.{specs.ByteRanges.{ByteRange, dash, last_before}, specs.Cut.cut}

-- the first and the last position, if a part is carried, and the length of the whole, if it is known
pub record ContentBytes : Type 0 where
  pub range : Option (ℕ × ℕ)
  pub length : Option ℕ

abbrev pub of_parts : Option (ℕ × ℕ) × Option ℕ → ContentBytes
of_parts parts = record { range = parts.0; length = parts.1 }

-- ---- decoding

-- b' '
abbrev pub space : ℕ
space = 32

-- b'/'
abbrev pub slash : ℕ
slash = 47

-- the byte that means no range, or no length
abbrev pub star : Line
star = codes "*"

abbrev pub read_or_star : {A : Type 0} → (Line → Option A) → Line → Option (Option A)
read_or_star read text = if bytes_eq text star then Some None else option_map Some (read text)

-- two positions, if the first is at most the last
abbrev pub in_order : ℕ × ℕ → Option (ℕ × ℕ)
in_order range = if nat_le range.0 range.1 then Some range else None

-- two numbers in order
abbrev pub numbers : Line × Line → Option (ℕ × ℕ)
numbers parts = option_and_then in_order (option_zip (number parts.0) (number parts.1))

-- the positions on both sides of the first dash
abbrev pub positions : Line → Option (ℕ × ℕ)
positions text = option_and_then numbers (cut dash text)

-- a range or `*`, and a length or `*`
abbrev pub sized : Line × Line → Option ContentBytes
sized parts = option_map of_parts (option_zip (read_or_star positions parts.0) (read_or_star number parts.1))

-- the unit is `bytes`; the range is before the first slash that follows the unit
abbrev pub in_bytes : Line × Line → Option ContentBytes
in_bytes parts = if bytes_eq parts.0 (codes "bytes") then option_and_then sized (cut slash parts.1) else None

-- what a field line of text decodes to: the unit is before its first space
unfoldable pub content_bytes : Line → Option ContentBytes
content_bytes line = if is_text line then option_and_then in_bytes (cut space line) else None

-- ---- encoding

abbrev pub range_shown : Option (ℕ × ℕ) → Line
range_shown None = star
range_shown (Some range) = decimal range.0 ++ dash ∷ decimal range.1

abbrev pub length_shown : Option ℕ → Line
length_shown None = star
length_shown (Some length) = decimal length

unfoldable pub content_text : ContentBytes → Line
content_text content = codes "bytes " ++ (range_shown content.range ++ slash ∷ length_shown content.length)

-- a range, if there is one, has its first position at or before its last
abbrev pub is_ordered : ContentBytes → Bool
is_ordered content = range_ordered content.range
  where
    range_ordered : Option (ℕ × ℕ) → Bool
    range_ordered None = true
    range_ordered (Some range) = nat_le range.0 range.1

-- ---- construction from bounds

-- the first position of a range: there is none past the greatest `u64`
abbrev pub first_position : Bound ℕ → Option ℕ
first_position (Included first) = Some first
first_position (Excluded before) = if nat_lt (before + 1) (2 ^ 64) then Some (before + 1) else None
first_position Unbounded = Some 0

-- the last position of a range in a representation of some length: none is before 0, or without a length
abbrev pub last_position : Bound ℕ → Option ℕ → Option ℕ
last_position (Included last) length = Some last
last_position (Excluded end) length = last_before end
last_position Unbounded length = option_and_then last_before length

-- the range of two bounds, in a representation of some length
abbrev pub built : ByteRange → Option ℕ → Option ContentBytes
built range length =
    option_map (λ positions. of_parts (Some positions, length))
    (option_zip (first_position range.0) (last_position range.1 length))

-- a number, if there is one, is below 2^64
abbrev pub FitsOption : Option ℕ → Type 0
FitsOption o = (n : ℕ) → o ≡ Some n → n < 2 ^ 64

-- all its numbers are below 2^64
pub record FitsContent (content : ContentBytes) : Type 0 where
  pub first : (r : ℕ × ℕ) → content.range ≡ Some r → r.0 < 2 ^ 64
  pub last : (r : ℕ × ℕ) → content.range ≡ Some r → r.1 < 2 ^ 64
  pub whole : FitsOption content.length
