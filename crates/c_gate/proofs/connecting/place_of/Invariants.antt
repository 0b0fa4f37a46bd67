use Rattle.{std.proofs.Common.{◌≡◌, ◌≤◌, ◌+◌, length}, std.specs.List.position_from}
use Rattle.{headers_section.specs.Section.input_lines, headers_syntax.specs.AsciiCase.{same_name}}
use Rattle.c_gate.proofs.connecting.place_of.Given as goal

abbrev pub invariant-loop-after : goal.invariant-loop-after
invariant-loop-after l =
    (position_from (λ target. same_name target l.fn.authority) l.place (input_lines l.rest)
    ≡ position_from (λ target. same_name target l.fn.authority) 0 (input_lines l.fn.targets))
    × (l.place + length l.rest ≤ length l.fn.targets)

abbrev pub decreases-loop-after : goal.decreases-loop-after
decreases-loop-after l = length l.rest
