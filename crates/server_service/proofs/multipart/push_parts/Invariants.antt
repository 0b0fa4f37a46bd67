use Rattle.{std.{proofs.Common.{◌≡◌, ◌++◌, take}, specs.List.flat_map}, server_service.specs.Multipart.part_pieces}
use Rattle.server_service.proofs.multipart.push_parts.Given as goal

abbrev pub invariant-loop-part : goal.invariant-loop-part
invariant-loop-part l = (l.response.pieces.items
    ≡ l.fn.response.pieces.items ++ flat_map (part_pieces l.boundary l.file) (take l.part-index l.parts))
    × (l.response.headers ≡ l.fn.response.headers)
