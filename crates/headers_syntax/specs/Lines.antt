-- Field lines: the bytes of header values.
use Rattle.std.specs.Prelude.{◌≡◌, ℕ, List, [], ◌∷◌, ◌++◌, map, Option, Some, None}
use Rattle.http_header.specs.FieldValue.{FieldValue}

-- a line is the bytes of one header value
abbrev pub Line : Type 0
Line = List ℕ

-- the field lines of a list of header values
abbrev pub lines_of : List FieldValue → List Line
lines_of values = map (λ v. v.bytes) values

-- the first line
abbrev pub first_line : List Line → Option Line
first_line [] = None
first_line (line ∷ lines) = Some line

-- the line, if there is exactly one
abbrev pub only_line : List Line → Option Line
only_line [] = None
only_line (line ∷ []) = Some line
only_line (line ∷ other ∷ lines) = None

-- the lines, if there is at least one
abbrev pub some_lines : List Line → Option (List Line)
some_lines [] = None
some_lines (line ∷ lines) = Some (line ∷ lines)

-- new header values are appended to the old ones, and these are their field lines
pub record Appends (old new : List FieldValue) (lines : List Line) : Type 0 where
  pub added : List FieldValue
  pub behind : new ≡ old ++ added
  pub written : lines_of added ≡ lines
