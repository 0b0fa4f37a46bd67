-- The field lines of a decision, as text.
use Rattle.{std.specs.Prelude.{ℕ, List, flat_map}, headers.specs.LineMap.Field}
use Rattle.headers_section.specs.CanonicalText.{line_text}

-- each field line of a field, after its name
abbrev pub field_text : Field → List ℕ
field_text field = flat_map (line_text field.0) field.1

abbrev pub fields_text : List Field → List ℕ
fields_text fields = flat_map field_text fields
