use Rattle.{std.proofs.Common.{◌≡◌, ◌++◌}, headers.specs.Lines.lines_of, server_service.specs.Multipart.header_text}
use Rattle.server_service.proofs.multipart.push_header.Given as goal

abbrev pub invariant-loop-line : goal.invariant-loop-line
invariant-loop-line g l = l.text.items ≡ l.fn.text.items ++ header_text g.H.Header.field_name (lines_of l.yielded)
