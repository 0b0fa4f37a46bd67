use Rattle.std.proofs.{Common.{◌++◌, ◌∷◌, [], arith}, lemmas.{Grind.common_steps, List.Folds.flat_map-map}}
use Rattle.{http_header.specs.FieldValue.FieldValue, headers.specs.Lines.Line}
use Rattle.c_parts.proofs.written.lines_text.Goals as goal

pub returns : goal.returns
returns c = rw (flat_map-map (λ (line : Line). line ++ 10 ∷ []) (λ (value : FieldValue). value.bytes) c.args.lines.now)
    (grind (arith, common_steps))
