-- Field lines cut at a byte, also where it is in quotes.
use Rattle.std.{specs.Prelude.{ℕ, List, [], map, ◌==◌, if◌then◌else◌}, specs.List.{slice_split, flat_map}}
use Rattle.headers_syntax.{specs.Lines.Line, specs.Text.{is_text, trim}}

-- the trimmed slices between all bytes c of a field line; a line that isn't text has none
abbrev pub parts : ℕ → Line → List (List ℕ)
parts c line = if is_text line then map trim (slice_split (λ b. b == c) line) else []

-- the parts of all field lines, in order
abbrev pub parts_of_lines : ℕ → List Line → List (List ℕ)
parts_of_lines c lines = flat_map (parts c) lines
