use Rattle.std.proofs.Common.{◌≡◌, ◌++◌, length}
use Rattle.headers.specs.LineMap.{fields_of as encoded_fields}
use Rattle.server_service.specs.Response.{fields_of, headers_set}
use Rattle.server_service.proofs.fields.set_fields.Given as goal

abbrev pub invariant-loop-rest : goal.invariant-loop-rest
invariant-loop-rest l = (fields_of l.response ++ headers_set (encoded_fields l.rest)
    ≡ fields_of l.fn.response ++ headers_set (encoded_fields l.fields))
    × (l.response.status ≡ l.fn.response.status) × (l.response.pieces.items ≡ l.fn.response.pieces.items)

abbrev pub decreases-loop-rest : goal.decreases-loop-rest
decreases-loop-rest l = length l.rest
