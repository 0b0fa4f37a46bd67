-- Lists of values, where a star means any.
use Rattle.std.specs.Prelude.{Bool, false, List, [], ◌∷◌, bytes_eq, codes}
use Rattle.headers.specs.Lines.{Line}

-- the only line is a star
abbrev pub is_any : List Line → Bool
is_any [] = false
is_any (line ∷ []) = bytes_eq line (codes "*")
is_any (line ∷ other ∷ lines) = false
