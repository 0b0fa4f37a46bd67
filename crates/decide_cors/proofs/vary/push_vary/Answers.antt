use Rattle.std.{proofs.Common.{false, [], ◌∷◌, ◌++◌, sym, ap, ◌∙◌, codes}, proofs.lemmas.List.map-append}
use Rattle.headers.specs.LineMap.{field_of, fields_of}
use Rattle.decide_cors.proofs.vary.push_vary.Goals as goal

pub returns : goal.returns
returns c =
    let none = sym c.response_covers_origin.ensures ∙ c.if-response_covers_origin.false in
    rw none (rw (c.in_ok-push.ensures.items) (map-append field_of _ _ ∙ ap
    (λ lines. fields_of c.args.fields.now.items ++ (codes "vary", lines) ∷ []) c.in_ok-lines.ensures))
