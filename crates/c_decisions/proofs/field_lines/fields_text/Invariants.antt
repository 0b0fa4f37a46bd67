use Rattle.{std.proofs.Common.{◌≡◌, flat_map, take}, headers.specs.LineMap.field_of}
use Rattle.c_decisions.specs.FieldLines.{field_text}
use Rattle.c_decisions.proofs.field_lines.fields_text.Given as goal

abbrev pub invariant-loop-field : goal.invariant-loop-field
invariant-loop-field l = l.text.items ≡ flat_map (λ field. field_text (field_of field)) (take l.field-index l.fields)
