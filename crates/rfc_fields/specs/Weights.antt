-- Weights (RFC 9110, section 12.4.2).
use Rattle.std.specs.Prelude.{ℕ, ◌-◌, ◌*◌, ◌^◌, ◌&&◌, ◌==◌, nat_le, List, [], ◌∷◌, length, Option, None, Some}
use Rattle.std.specs.{Prelude.if◌then◌else◌, Str.all_ascii_digits}
use Rattle.headers_syntax.specs.Number.{decimal_value}

-- 0*3DIGIT after a point, in thousandths
abbrev pub thousandths : List ℕ → Option ℕ
thousandths digits =
    if nat_le (length digits) 3 && all_ascii_digits digits
    then Some (decimal_value digits * 10 ^ (3 - length digits))
    else None

-- [ "." 0*3DIGIT ]
abbrev pub fraction : List ℕ → Option ℕ
fraction [] = Some 0
fraction (b ∷ digits) = if b == 46 then thousandths digits else None

-- a thousand, if the fraction after the digit 1 has no digit but 0
abbrev pub one : Option ℕ → Option ℕ
one None = None
one (Some n) = if n == 0 then Some 1000 else None

-- qvalue = ( "0" [ "." 0*3DIGIT ] ) / ( "1" [ "." 0*3("0") ] ), in thousandths
abbrev pub weight : List ℕ → Option ℕ
weight [] = None
weight (b ∷ s) = if b == 48 then fraction s else (if b == 49 then one (fraction s) else None)
