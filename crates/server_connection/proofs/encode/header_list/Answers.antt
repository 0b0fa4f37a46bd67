use Rattle.std.proofs.{Common.{[], ◌∷◌, ◌++◌, take, sym, ap, ◌∙◌}, lemmas.List.{map_push, map_more}}
use Rattle.{http1.specs.Head.{header_parts, pairs}, http_server.specs.Response.fields}
use Rattle.server_connection.proofs.encode.header_list.Goals as goal

pub loop-header-preserved : goal.loop-header-preserved
loop-header-preserved c =
    let item = c.header-item.result in
    ap pairs c.in_ok-push.ensures.items ∙ map_push header_parts _ _
    ∙ (λ i. c.loop-header.invariant i ++ (c.as_bytes.ensures.value i, c.as_bytes-in-loop-header.ensures.value i) ∷ [])
    ∙ (λ i. fields (take c.loop-header.header-index c.args.headers.now) ++
    ((c.header-item.is i).0, (c.header-item.is i).1.bytes) ∷ [])
    ∙ sym (map_more (λ h. (h.0, h.1.bytes)) c.args.headers.now _ item c.loop-header-test.true)
