-- Numbers in field lines.
use Rattle.std.specs.Prelude.{ℕ, ◌+◌, ◌-◌, ◌*◌, ◌^◌, Bool, ◌&&◌, [], ◌∷◌, length, Option, Some, None, if◌then◌else◌}
use Rattle.std.{specs.Prelude.{◌==◌, nat_lt}, specs.Str.all_ascii_digits}
use Rattle.headers_syntax.specs.Lines.{Line}

-- what follows an optional plus sign
abbrev pub after_plus : Line → Line
after_plus [] = []
after_plus (c ∷ cs) = if c == 43 then cs else c ∷ cs

-- the number that decimal digits denote, each digit by the weight of its place
abbrev pub decimal_value : Line → ℕ
decimal_value [] = 0
decimal_value (c ∷ cs) = (c - 48) * 10 ^ length cs + decimal_value cs

-- one or more digits, with a value below 2^64
abbrev pub is_numeral : Line → Bool
is_numeral digits = (nat_lt 0 (length digits) && all_ascii_digits digits) && nat_lt (decimal_value digits) (2 ^ 64)

-- the number that a field line denotes: an optional plus sign, and then a numeral
unfoldable pub number : Line → Option ℕ
number line = if is_numeral (after_plus line) then Some (decimal_value (after_plus line)) else None
