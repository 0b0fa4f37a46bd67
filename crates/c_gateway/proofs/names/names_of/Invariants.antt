use Rattle.{std.proofs.Common.{◌≡◌, All, map, take}, http_header.specs.{FieldName.IsFieldName, Token.lowercase}}
use Rattle.headers.specs.Lines.{lines_of}
use Rattle.c_gateway.proofs.names.names_of.Given as goal

abbrev pub invariant-loop-line : goal.invariant-loop-line
invariant-loop-line l = record {
  are_names : All IsFieldName (lines_of (take l.line-index l.lines));
  names : l.names.items ≡ map lowercase (lines_of (take l.line-index l.lines));
}
