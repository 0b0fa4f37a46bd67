use Rattle.{std.proofs.Common.{◌≡◌, codes, take}, headers.specs.{LineMap.lines_at, Lines.lines_of}}
use Rattle.decide_resource.proofs.shared.varying.Given as goal

abbrev pub invariant-loop-line : goal.invariant-loop-line
invariant-loop-line l = lines_at l.response (codes "vary") ≡ lines_of (take l.line-index l.lines)
