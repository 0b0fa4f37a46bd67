-- The byte ranges in a range-set (RFC 9110, sections 14.1.1 and 14.1.2).
use Rattle.std.specs.Prelude.{ℕ, ◌+◌, ◌-◌, ◌^◌, ◌<◌, ◌≤◌, Bool, ◌&&◌, ◌==◌, nat_lt, nat_le, min, List, [], ◌∷◌, length}
use Rattle.std.specs.{Prelude.{Option, Some, None, if◌then◌else◌, is_some}, Char.is_ascii_digit, List.list_all}
use Rattle.std.specs.{List.filter_map, Option.option_and_then, Str.Parse.digits_value}
use Rattle.{headers.specs.{ByteRanges.{dash, pieces, pieces_left}, Text.trim}, rfc_fields.specs.Cuts.cut}
use Rattle.decide_preconditions.specs.declared.part.Part.{Part}
use denote.Ref.{Bor}

-- 1*DIGIT, of any length, without a sign
abbrev pub is_numeral : List ℕ → Bool
is_numeral text = nat_lt 0 (length text) && list_all is_ascii_digit text

-- An int-range, with a last position or up to the end, or a suffix-range. The numbers have no limit.
pub data RangeSpec : Type 0 where
  Between : ℕ → ℕ → RangeSpec
  From : ℕ → RangeSpec
  Suffix : ℕ → RangeSpec

-- The range-spec with these two sides of its dash. An int-range whose last position is less than its first is invalid.
abbrev pub spec_between : List ℕ → List ℕ → Option RangeSpec
spec_between [] last = if is_numeral last then Some (Suffix (digits_value 10 last)) else None
spec_between (b ∷ first) [] = if is_numeral (b ∷ first) then Some (From (digits_value 10 (b ∷ first))) else None
spec_between (b ∷ first) (c ∷ last) =
    if is_numeral (b ∷ first) && (is_numeral (c ∷ last)
    && nat_le (digits_value 10 (b ∷ first)) (digits_value 10 (c ∷ last)))
    then Some (Between (digits_value 10 (b ∷ first)) (digits_value 10 (c ∷ last)))
    else None

-- the valid range-spec that an element is, if it is one
abbrev pub spec_of : List ℕ → Option RangeSpec
spec_of element = option_and_then (λ (sides : List ℕ × List ℕ). spec_between sides.0 sides.1) (cut dash element)

abbrev pub is_range_spec : List ℕ → Bool
is_range_spec element = is_some (spec_of element)

-- ---- the elements of a list (section 5.6.1)

-- a piece without the blanks at its ends, unless nothing is left of it
abbrev pub element_of : List ℕ → Option (List ℕ)
element_of piece = if length (trim piece) == 0 then None else Some (trim piece)

-- the elements between the commas, without empty ones: a range-spec has no quotes, between which a comma would be text
abbrev pub elements : List ℕ → List (List ℕ)
elements text = filter_map element_of (pieces text)

-- what an iterator has left: the elements of the rest, if there is one
abbrev pub elements_left : Option (Bor (List ℕ)) → List (List ℕ)
elements_left rest = filter_map element_of (pieces_left rest)

-- ---- a range-set

-- at least one range-spec, and all are valid
abbrev pub is_range_set : List ℕ → Bool
is_range_set text = nat_lt 0 (length (elements text)) && list_all is_range_spec (elements text)

abbrev pub specs : List ℕ → List RangeSpec
specs text = filter_map spec_of (elements text)

-- the positions that a spec names, in a representation of any length: the last n of a suffix-range
abbrev pub Names : ℕ → ℕ → RangeSpec → Type 0
Names len p (Between first last) = (first ≤ p) × (p ≤ last)
Names len p (From first) = first ≤ p
Names len p (Suffix n) = len ≤ p + n

-- a spec asks for position p of a representation of this many bytes
abbrev pub Covers : ℕ → ℕ → RangeSpec → Type 0
Covers len p spec = (p < len) × Names len p spec

-- ---- the part that a spec selects, if it is satisfiable

abbrev pub part_to : ℕ → ℕ → ℕ → Option Part
part_to len first last =
    if nat_le first last && nat_lt first len then Some (record { first = first; last = min last (len - 1) }) else None

abbrev pub part_of : ℕ → RangeSpec → Option Part
part_of len (Between first last) = part_to len first last
part_of len (From first) = if nat_lt first len then Some (record { first = first; last = len - 1 }) else None
part_of len (Suffix n) =
    if nat_lt 0 n && nat_lt 0 len then Some (record { first = len - n; last = len - 1 }) else None

abbrev pub part_in : ℕ → List ℕ → Option Part
part_in len element = option_and_then (part_of len) (spec_of element)

-- the element is a range-spec that selects a part
abbrev pub selects_some : ℕ → List ℕ → Bool
selects_some len element = is_some (part_in len element)

-- the greatest number that a `u64` has
abbrev pub greatest : ℕ
greatest = 2 ^ 64 - 1

-- the number of some digits, or the greatest one if it is greater
abbrev pub capped : List ℕ → ℕ
capped digits = min (digits_value 10 digits) greatest
