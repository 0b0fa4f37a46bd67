use Rattle.std.proofs.Common.{ℕ, List, ◌++◌, ap, ◌∙◌}
use Rattle.{http1.specs.Server.is_head, server_laws.proofs.Served.framed_literally}
use Rattle.server_laws.proofs.laws.ok_is_put_out_literally.Goals as goal

pub returns : goal.returns
returns c config first now history x time tag media_type ok stays =
    let framed = framed_literally config.limits x.message.head x.reads.reads.framing ok stays
    (rw (x.kind ∙ ap is_head stays.method) at x.frames) in
    (x.out ∙ ap (λ (l : List ℕ). (x.text ++ x.interim) ++ (l ++ x.front)) framed.0, framed.1)
