use Rattle.{std.proofs.Common.{◌≡◌, ◌++◌, codes}, headers.specs.{LineMap.lines_at, Lines.lines_of}}
use Rattle.decide_cors.proofs.vary.lines_with_origin.Given as goal

abbrev pub invariant-loop-line : goal.invariant-loop-line
invariant-loop-line l = lines_of l.lines.items ++ lines_of l.line-iterator ≡ lines_at l.response (codes "vary")
