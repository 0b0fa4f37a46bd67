use Rattle.std.proofs.{Common.{◌∙◌, List, ℕ, ap, take}, lemmas.Result.{IfErr-weaker, IfOk-weaker}}
use Rattle.{http1_typed.specs.Parts.map_at, gateway_connection.proofs.SpanLemmas.{map_at-take, map_fails}}
use Rattle.gateway_connection.proofs.head.take_fields.Goals as goal

pub returns-clause-fields : goal.returns-clause-fields
returns-clause-fields c = IfOk-weaker c.header_map.result _ _ (λ m is. is
    ∙ ap (λ (section : List ℕ). map_at section (take c.args.count c.args.spans.now)) c.in_ok-section.ensures.front
    ∙ map_at-take _ _ _ _ c.requires.headers_fit) c.header_map.ensures.ok

pub returns-clause-reason : goal.returns-clause-reason
returns-clause-reason c = IfErr-weaker c.header_map.result _ _ (λ error wrong.
    map_fails _ _ (take c.args.count c.args.spans.now) c.requires.headers_fit error
    (rw c.in_ok-section.ensures.front at wrong)) c.header_map.ensures.err
