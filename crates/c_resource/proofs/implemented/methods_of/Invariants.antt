use Rattle.{std.proofs.Common.{◌≡◌, All, take}, http_header.specs.Token.IsToken, headers.specs.Lines.lines_of}
use Rattle.c_resource.proofs.implemented.methods_of.Given as goal

abbrev pub invariant-loop-line : goal.invariant-loop-line
invariant-loop-line l = All IsToken l.methods.items × (l.methods.items ≡ lines_of (take l.line-index l.lines))
