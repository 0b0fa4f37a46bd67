use Rattle.{std.{proofs.Common.{◌≡◌, true}, specs.List.list_all}, http_server.specs.Response.fields}
use Rattle.server_service.specs.Response.{fields_of, is_line, trimmed_lines}
use Rattle.server_service.proofs.fields.trim_lines.Given as goal

abbrev pub invariant-loop-name : goal.invariant-loop-name
invariant-loop-name l =
    (fields_of l.response ≡ trimmed_lines (fields l.yielded)) × (list_all is_line (fields_of l.response) ≡ true)
    × (l.response.pieces.items ≡ l.fn.response.pieces.items)
