use Rattle.{std.proofs.Common.{◌≡◌, ◌++◌, map, filter, not, bytes_eq, codes}, http1.specs.Head.pairs}
use Rattle.{c_pass.specs.Sending.FieldLine, c_gate.specs.Answers.kept_lines}
use Rattle.c_gate.proofs.answering.kept_lines.Given as goal

abbrev pub invariant-loop-name : goal.invariant-loop-name
invariant-loop-name l =
    pairs l.lines.items
    ++ map (λ (line : FieldLine). (line.0, line.1.bytes))
    (filter (λ (line : FieldLine). not (bytes_eq line.0 (codes "content-length"))) l.name-iterator)
    ≡ kept_lines l.fields
