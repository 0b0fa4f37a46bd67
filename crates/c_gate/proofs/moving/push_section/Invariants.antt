use Rattle.{std.proofs.Common.{◌≡◌, ◌++◌, length}, headers_section.specs.Section.input_lines}
use Rattle.c_gate.specs.Moves.{lines_text}
use Rattle.c_gate.proofs.moving.push_section.Given as goal

abbrev pub invariant-loop-text : goal.invariant-loop-text
invariant-loop-text l =
    l.text.items ++ lines_text (input_lines l.rest) ≡ l.fn.text.items ++ lines_text (input_lines l.fn.section)

abbrev pub decreases-loop-text : goal.decreases-loop-text
decreases-loop-text l = length l.rest
