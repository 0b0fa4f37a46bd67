-- Field lines in order (RFC 9110, section 5.2), and the field lines of each name.
use Rattle.{std.specs.Prelude.{ℕ, List, map, filter, bytes_eq}, http_header.specs.FieldValue.FieldValue}
use Rattle.{headers.specs.{LineMap.LineMap, Lines.Line}, gateway_messages.specs.declared.field_line.FieldLine.FieldLine}

-- a field name with one field line value
abbrev pub Field : Type 0
Field = List ℕ × Line

-- a name and a value of a header map
abbrev pub field_of : List ℕ × FieldValue → Field
field_of pair = (pair.0, pair.1.bytes)

abbrev pub fields_of : List FieldLine → List Field
fields_of fields = map (λ field. (field.name, field.value.bytes)) fields

-- the field line values of each name, in order
abbrev pub lines_under : List Field → LineMap
lines_under fields name = map (λ field. field.1) (filter (λ field. bytes_eq field.0 name) fields)
