-- The elements of a list field.
use Rattle.std.{specs.Prelude.{Bool, List, filter, length, map, nat_lt, ◌==◌}, specs.List.slice_split}
use Rattle.headers.{specs.Lines.Line, specs.Places.comma, specs.Text.trim}

-- what is between the commas of a value
abbrev pub pieces : Line → List Line
pieces value = slice_split (λ b. b == comma) value

abbrev pub is_filled : Line → Bool
is_filled piece = nat_lt 0 (length piece)

-- the pieces without the white space around them, except empty ones, which are ignored (RFC 9110, section 5.6.1.2)
unfoldable pub elements : Line → List Line
elements value = filter is_filled (map trim (pieces value))
