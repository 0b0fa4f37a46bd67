use Rattle.{std.proofs.Common.{◌≡◌, ◌++◌, map}, http_header.specs.HeaderMap.pairs, http_server.specs.Response.fields}
use Rattle.example_notes.proofs.service.add_lines.Given as goal

abbrev pub invariant-loop-name : goal.invariant-loop-name
invariant-loop-name l = (
    fields l.plan.headers.items ++ map (λ p. (p.0, p.1.bytes)) l.name-iterator
    ≡ map (λ p. (p.0, p.1.bytes)) (pairs l.lines)
    ) × (l.plan.status ≡ l.fn.plan.status) × (l.plan.pieces.items ≡ l.fn.plan.pieces.items)
