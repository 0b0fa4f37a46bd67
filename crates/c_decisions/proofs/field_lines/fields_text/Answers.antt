use Rattle.std.proofs.{Common.arith, lemmas.{Grind.common_steps, List.Folds.flat_map-map}}
use Rattle.{headers.specs.LineMap.field_of, c_decisions.specs.FieldLines.field_text}
use Rattle.c_decisions.proofs.field_lines.fields_text.Goals as goal

pub returns : goal.returns
returns c = rw (flat_map-map field_text field_of c.args.fields.now) (grind (arith, common_steps))
