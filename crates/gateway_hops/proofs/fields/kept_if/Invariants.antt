use Rattle.{std.proofs.Common.{◌≡◌, ◌++◌}, headers.specs.Lines.lines_of}
use Rattle.gateway_hops.proofs.fields.kept_if.Given as goal

abbrev pub invariant-loop-line : goal.invariant-loop-line
invariant-loop-line l = lines_of l.lines.items ++ lines_of l.line-iterator ≡ lines_of l.received
