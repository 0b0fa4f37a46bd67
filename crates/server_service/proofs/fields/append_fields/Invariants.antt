use Rattle.std.proofs.Common.{◌≡◌, ◌++◌}
use Rattle.headers.specs.LineMap.{fields_of as encoded_fields}
use Rattle.server_service.specs.Response.{fields_of, headers_of}
use Rattle.server_service.proofs.fields.append_fields.Given as goal

abbrev pub invariant-loop-field : goal.invariant-loop-field
invariant-loop-field l = (fields_of l.response ≡ fields_of l.fn.response ++ headers_of (encoded_fields l.yielded))
    × (l.response.status ≡ l.fn.response.status) × (l.response.pieces.items ≡ l.fn.response.pieces.items)
