use Rattle.std.{proofs.Common.arith, proofs.lemmas.Grind.common_steps, proofs.lemmas.List.Folds.flat_map-map}
use Rattle.headers_section.specs.CanonicalText.{line_text}
use Rattle.gateway_messages.{specs.FieldLines.Field, specs.declared.field_line.FieldLine.FieldLine}
use Rattle.c_gateway.proofs.lines.lines_text.Goals as goal

pub returns : goal.returns
returns c = rw (flat_map-map (λ (field : Field). line_text field.0 field.1)
    (λ (field : FieldLine). (field.name, field.value.bytes)) c.args.fields.now) (grind (arith, common_steps))
