-- The entries of a list of field lines.
use Rattle.std.{specs.Prelude.{ℕ, List, filter}, specs.List.flat_map}
use Rattle.headers_syntax.specs.Lines.{Line}
use Rattle.headers_items.{specs.Places.{comma, items}, specs.ItemsState.is_entry}

-- the items between commas of one field line that aren't empty; a line that isn't text has none
abbrev pub line_entries : Line → List (List ℕ)
line_entries line = filter is_entry (items comma line)

-- the entries of all field lines, in order
abbrev pub entries : List Line → List (List ℕ)
entries lines = flat_map line_entries lines
