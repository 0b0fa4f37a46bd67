use Rattle.{std.proofs.Common.{◌≡◌, flat_map, take}, headers_section.specs.CanonicalText.line_text}
use Rattle.c_gateway.proofs.lines.lines_text.Given as goal

abbrev pub invariant-loop-field : goal.invariant-loop-field
invariant-loop-field l =
    l.text.items ≡ flat_map (λ field. line_text field.name field.value.bytes) (take l.field-index l.fields)
