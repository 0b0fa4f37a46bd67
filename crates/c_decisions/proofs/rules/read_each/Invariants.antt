use Rattle.{std.{proofs.Common.take, specs.List.AllZip}, headers.specs.Lines.lines_of}
use Rattle.c_decisions.proofs.rules.read_each.Given as goal

abbrev pub invariant-loop-line : goal.invariant-loop-line
invariant-loop-line g l = AllZip g.T.Listed.reads (lines_of (take l.line-index l.lines)) l.values.items
