-- Numbers (RFC 9110, section 8.6; RFC 9111, section 1.2.2).
use Rattle.std.specs.Prelude.{ℕ, ◌+◌, ◌-◌, ◌*◌, Bool, false, List, [], ◌∷◌, Option, None, Some, unwrap_or, min}
use Rattle.std.{specs.Prelude.if◌then◌else◌, specs.Char.is_ascii_digit, specs.Str.all_ascii_digits}
use Rattle.headers_syntax.specs.Number.{decimal_value}

-- 1*DIGIT
abbrev pub is_number : List ℕ → Bool
is_number [] = false
is_number (b ∷ s) = all_ascii_digits (b ∷ s)

-- the number that digits denote, or the greatest if it is greater
abbrev pub number_within : ℕ → List ℕ → Option ℕ
number_within greatest s = if is_number s then Some (min (decimal_value s) greatest) else None

-- the number with one more digit, or the greatest if it is greater
abbrev pub with_digit : ℕ → Option ℕ → ℕ → Option ℕ
with_digit greatest number b =
    if is_ascii_digit b then Some (min (unwrap_or number 0 * 10 + (b - 48)) greatest) else None
