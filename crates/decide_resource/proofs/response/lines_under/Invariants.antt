use Rattle.{std.proofs.Common.{◌≡◌, ◌++◌}, headers.specs.{LineMap.lines_at, Lines.lines_of}}
use Rattle.decide_resource.proofs.response.lines_under.Given as goal

abbrev pub invariant-loop-line : goal.invariant-loop-line
invariant-loop-line l = lines_of l.lines.items ++ lines_of l.line-iterator ≡ lines_at l.map l.fn.name
