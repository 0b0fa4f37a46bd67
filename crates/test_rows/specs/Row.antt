-- The lines of a file that are test cases.
use Rattle.std.specs.Prelude.{ℕ, Bool, false, not, ◌==◌, List, [], ◌∷◌}

-- a line that is neither empty nor a comment, which begins with `#`
abbrev pub is_row_line : List ℕ → Bool
is_row_line [] = false
is_row_line (byte ∷ _) = not (byte == 35)
