use Rattle.std.proofs.Common.{◌≡◌, ◌++◌, map}
use Rattle.{c_pass.specs.Sending.FieldLine, gateway_messages.specs.FieldLines.fields_of}
use Rattle.c_gate.specs.Answers.{header_lines}
use Rattle.c_gate.proofs.answering.added_of.Given as goal

abbrev pub invariant-loop-name : goal.invariant-loop-name
invariant-loop-name l =
    fields_of l.added.items ++ map (λ (line : FieldLine). (line.0, line.1.bytes)) l.name-iterator
    ≡ header_lines l.fields
