use Rattle.{std.proofs.Common.take, headers.specs.Lines.lines_of, c_pass.proofs.NameLemmas.IsReadAs}
use Rattle.c_pass.proofs.names.names_of.Given as goal

abbrev pub invariant-loop-line : goal.invariant-loop-line
invariant-loop-line l = IsReadAs (lines_of (take l.line-index l.lines)) l.names.items
