use Rattle.{std.proofs.Common.{◌≡◌, ◌++◌}, http_header.specs.HeaderMap.get_all, headers.specs.Lines.lines_of}
use Rattle.c_handles.proofs.field.values_at.Given as goal

abbrev pub invariant-loop-value : goal.invariant-loop-value
invariant-loop-value l = lines_of l.values.items ++ lines_of l.value-iterator ≡ lines_of (get_all l.fields l.name)
