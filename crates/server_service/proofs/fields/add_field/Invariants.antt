use Rattle.{std.proofs.Common.{◌≡◌, ◌++◌}, headers.specs.Lines.lines_of, server_service.specs.Response.fields_of}
use Rattle.server_service.specs.Response.{lines_under}
use Rattle.server_service.proofs.fields.add_field.Given as goal

abbrev pub invariant-loop-line : goal.invariant-loop-line
invariant-loop-line l =
    (fields_of l.response ≡ fields_of l.fn.response ++ lines_under (l.fn.field.name, lines_of l.yielded))
    × (l.response.status ≡ l.fn.response.status) × (l.response.pieces.items ≡ l.fn.response.pieces.items)
