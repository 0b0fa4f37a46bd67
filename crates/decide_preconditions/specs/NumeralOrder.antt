-- The order of two numerals of any length, by their digits.
use Rattle.std.specs.Prelude.{ℕ, Bool, true, false, ◌==◌, nat_lt, List, [], ◌∷◌, length, if◌then◌else◌}

-- the digits from the first one on that isn't zero
unfoldable pub without_zeros : List ℕ → List ℕ
without_zeros [] = []
without_zeros (b ∷ digits) = if b == 48 then without_zeros digits else b ∷ digits

-- of as many digits, the first that differs decides
unfoldable pub is_below : List ℕ → List ℕ → Bool
is_below [] others = true
is_below (b ∷ digits) [] = false
is_below (b ∷ digits) (c ∷ others) = if b == c then is_below digits others else nat_lt b c

-- with no zeros before them: fewer digits, or as many of a number that is no greater
abbrev pub is_ordered : List ℕ → List ℕ → Bool
is_ordered first last =
    if length first == length last then is_below first last else nat_lt (length first) (length last)
