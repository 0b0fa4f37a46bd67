use Rattle.{std.proofs.Common.{◌≡◌, ◌++◌, take}, headers.specs.Lines.lines_of, server_service.specs.Response.fields_of}
use Rattle.server_service.specs.Response.{lines_under}
use Rattle.server_service.proofs.fields.add_copy.Given as goal

abbrev pub invariant-loop-line : goal.invariant-loop-line
invariant-loop-line l = (fields_of l.response
    ≡ fields_of l.fn.response ++ lines_under (l.field.name, lines_of (take l.line-index l.field.lines.items)))
    × (l.response.status ≡ l.fn.response.status) × (l.response.pieces.items ≡ l.fn.response.pieces.items)
