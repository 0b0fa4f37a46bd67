-- The byte ranges in a field line of Range (RFC 9110, section 14.1.2).
use Rattle.std.specs.Prelude.{◌≡◌, ◌↔◌, ◌++◌, ℕ, ◌+◌, ◌-◌, ◌<◌, ◌≤◌, Bool, true, false, ◌&&◌, List, [], ◌∷◌, drop}
use Rattle.std.specs.Prelude.{length, ◌==◌, nat_lt, nat_le, min, Option, Some, None, option_map, MatchOption, codes}
use Rattle.std.specs.Prelude.{decimal, nat_eq, if◌then◌else◌}
use denote.Ref.{Bor}
use Rattle.std.{specs.List.{filter_map, slice_split, starts_with}, specs.Option.{option_zip, option_and_then}}
use Rattle.std.{specs.declared.ops.Bound.Bound, specs.declared.ops.Bound.TheVariants.{Included, Excluded, Unbounded}}
use Rattle.headers_syntax.{specs.Lines.Line, specs.Number.number, specs.Text.{is_text, trim}, specs.Shapes.line_if}
use Rattle.headers_items.specs.Places.{comma}
use Rattle.headers_ranges.specs.Cut.{cut}

-- b'-'
abbrev pub dash : ℕ
dash = 45

-- the beginning of the field value
abbrev pub bytes_unit : Line
bytes_unit = codes "bytes="

-- text that begins with `bytes=`
unfoldable pub is_range_line : Line → Bool
is_range_line line = is_text line && starts_with nat_eq line bytes_unit

-- the field line, if it is such text
abbrev pub range_line : Line → Option Line
range_line line = line_if is_range_line line

-- the two sides of a dash: a number, or nothing
abbrev pub Spec : Type 0
Spec = Option ℕ × Option ℕ

-- the bounds of a range of positions
abbrev pub ByteRange : Type 0
ByteRange = Bound ℕ × Bound ℕ

-- a half of a piece: empty, or a number; any other text is no half
abbrev pub half : List ℕ → Option (Option ℕ)
half [] = Some None
half (b ∷ bs) = option_map Some (number (b ∷ bs))

-- the halves on both sides of the first dash of a piece, once the piece is trimmed
abbrev pub spec_of : List ℕ → Option Spec
spec_of piece =
    option_and_then (λ (parts : List ℕ × List ℕ). option_zip (half parts.0) (half parts.1)) (cut dash (trim piece))

-- the pieces between all commas
abbrev pub pieces : List ℕ → List (List ℕ)
pieces text = slice_split (λ b. b == comma) text

-- the specs of what follows `bytes=`, in order; a piece that is no spec is left out
abbrev pub specs : Line → List Spec
specs line = filter_map spec_of (pieces (drop (length bytes_unit) line))

-- A range specification with these halves is valid (section 14.1.1): they aren't both empty, and the first position
-- isn't past the last.
abbrev pub are_valid_halves : Option ℕ → Option ℕ → Bool
are_valid_halves (Some a) (Some b) = nat_le a b
are_valid_halves (Some a) None = true
are_valid_halves None (Some n) = true
are_valid_halves None None = false

abbrev pub is_valid_spec : Spec → Bool
is_valid_spec spec = are_valid_halves spec.0 spec.1

-- the positions that two halves name: from a to b, from a on, or the last n; two empty ones name none
abbrev pub Names : Option ℕ → Option ℕ → ℕ → ℕ → Type 0
Names (Some a) (Some b) len p = (a ≤ p) × (p ≤ b)
Names (Some a) None len p = a ≤ p
Names None (Some n) len p = len ≤ p + n
Names None None len p = ⊥

-- a spec covers position p of a representation of this many bytes
abbrev pub Covers : ℕ → ℕ → Spec → Type 0
Covers len p spec = (p < len) × Names spec.0 spec.1 len p

-- the range from a to b, as far as it is below the length
abbrev pub clipped : ℕ → ℕ → ℕ → Option ByteRange
clipped len a b = if nat_le a b && nat_lt a len then Some (Included a, Included (min b (len - 1))) else None

-- the range that two halves give, if they cover any position
abbrev pub range_between : ℕ → Option ℕ → Option ℕ → Option ByteRange
range_between len (Some a) (Some b) = clipped len a b
range_between len (Some a) None = clipped len a (len - 1)
range_between len None (Some n) = if n == 0 then None else clipped len (len - n) (len - 1)
range_between len None None = None

-- the range that a spec gives
abbrev pub gives : ℕ → Spec → Option ByteRange
gives len spec = range_between len spec.0 spec.1

-- `bytes=`, the first position, a dash, and the last position if there is one
abbrev pub bytes_from_to : ℕ → Option ℕ → Line
bytes_from_to first None = bytes_unit ++ (decimal first ++ dash ∷ [])
bytes_from_to first (Some last) = bytes_unit ++ (decimal first ++ dash ∷ decimal last)

-- the last position before an end; there is none before 0
abbrev pub last_before : ℕ → Option ℕ
last_before end = if end == 0 then None else Some (end - 1)

-- the text of a range that has a first position, and a last position or none; other ranges have no text
abbrev pub bounds_text : Bound ℕ → Bound ℕ → Option Line
bounds_text (Included first) (Included last) = Some (bytes_from_to first (Some last))
bounds_text (Included first) (Excluded end) = option_map (λ last. bytes_from_to first (Some last)) (last_before end)
bounds_text (Included first) Unbounded = Some (bytes_from_to first None)
bounds_text (Excluded before) end = None
bounds_text Unbounded end = None

abbrev pub range_text : ByteRange → Option Line
range_text range = bounds_text range.0 range.1

-- position p isn't before the start
abbrev pub IsFrom : Bound ℕ → ℕ → Type 0
IsFrom (Included a) p = a ≤ p
IsFrom (Excluded a) p = a < p
IsFrom Unbounded p = Unit {0}

-- position p isn't past the end
abbrev pub IsUpTo : Bound ℕ → ℕ → Type 0
IsUpTo (Included b) p = p ≤ b
IsUpTo (Excluded b) p = p < b
IsUpTo Unbounded p = Unit {0}

-- position p is in a range
abbrev pub LiesIn : ℕ → ByteRange → Type 0
LiesIn p range = IsFrom range.0 p × IsUpTo range.1 p

-- a range is a first and a last position, in order and below the length
abbrev pub IsWithin : ℕ → ByteRange → Type 0
IsWithin len range = (a : ℕ) × (b : ℕ) × (range ≡ (Included a, Included b)) × (a ≤ b) × (b < len)

-- what a spec gives: nothing if it covers no position, else the range of just the positions that it covers
abbrev pub GivesCovered : ℕ → Spec → Type 0
GivesCovered len spec =
    MatchOption (gives len spec) ((p : ℕ) → ¬ (Covers len p spec))
    (λ range. IsWithin len range × ((p : ℕ) → LiesIn p range ↔ Covers len p spec))

-- what an iterator has left: the pieces of the rest, if there is one, and their ranges
abbrev pub pieces_left : Option (Bor (List ℕ)) → List (List ℕ)
pieces_left None = []
pieces_left (Some rest) = pieces rest.now

abbrev pub ranges_in : ℕ → Option (Bor (List ℕ)) → List ByteRange
ranges_in len rest = filter_map (gives len) (filter_map spec_of (pieces_left rest))

-- a rest, if there is one, is text
abbrev pub plain_rest : Option (Bor (List ℕ)) → Bool
plain_rest None = true
plain_rest (Some rest) = is_text rest.now
