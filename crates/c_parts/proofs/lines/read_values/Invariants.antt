use Rattle.{std.proofs.Common.{◌≡◌, ◌++◌, All, length}, http_header.specs.FieldValue.IsFieldValue}
use Rattle.{headers.specs.Lines.lines_of, headers_section.specs.Section.input_lines}
use Rattle.c_parts.specs.FieldText.{field_lines}
use Rattle.c_parts.proofs.lines.read_values.Given as goal

abbrev pub invariant-loop-values : goal.invariant-loop-values
invariant-loop-values l = (field_lines l.fn.text ≡ lines_of l.values.items ++ input_lines l.rest)
    × All IsFieldValue (lines_of l.values.items)

abbrev pub decreases-loop-values : goal.decreases-loop-values
decreases-loop-values l = length l.rest
