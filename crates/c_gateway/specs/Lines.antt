-- Field lines as text.
use Rattle.{std.specs.Prelude.{ℕ, List, flat_map}, gateway_messages.specs.FieldLines.Field}
use Rattle.headers_section.specs.CanonicalText.{line_text}

-- each field line, in order, after its name
abbrev pub lines_text : List Field → List ℕ
lines_text fields = flat_map (λ field. line_text field.0 field.1) fields
