use Rattle.{std.proofs.Common.{◌≡◌, ◌++◌, filter, map, true}, http_header.specs.HeaderMap.pairs}
use Rattle.{headers.specs.Lines.lines_of, rfc_fields.specs.Members.field_members}
use Rattle.gateway_messages.specs.{FieldLines.{Field, field_of, fields_of}, Messages.goes_on_in}
use Rattle.gateway_messages.proofs.received.received_fields.Given as goal

abbrev pub invariant-loop-name : goal.invariant-loop-name
invariant-loop-name l = fields_of l.fields.items ++ filter
    (λ (field : Field). goes_on_in l.gateway l.section (field_members true (lines_of l.connection)) field.0)
    (map field_of l.name-iterator) ≡ filter (λ (field : Field). goes_on_in l.gateway l.section
    (field_members true (lines_of l.connection)) field.0) (map field_of (pairs l.received))
