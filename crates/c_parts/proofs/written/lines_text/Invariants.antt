use Rattle.{std.proofs.Common.{◌≡◌, ◌∷◌, ◌++◌, [], flat_map, take}, http_header.specs.FieldValue.FieldValue}
use Rattle.c_parts.proofs.written.lines_text.Given as goal

abbrev pub invariant-loop-line : goal.invariant-loop-line
invariant-loop-line l =
    l.text.items ≡ flat_map (λ (line : FieldValue). line.bytes ++ 10 ∷ []) (take l.line-index l.lines)
