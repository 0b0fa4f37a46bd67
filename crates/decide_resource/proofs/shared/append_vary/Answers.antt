use Rattle.{std.proofs.{Common.{codes, ap, ◌∙◌}, lemmas.List.map-append}, http_header.specs.FieldValue.FieldValue}
use Rattle.http_header.{specs.HeaderMap.{Entries, get_all}, proofs.HeaderMapLemmas.get_all-append_same}
use Rattle.headers.specs.{LineMap.lines_at, Lines.lines_of}
use Rattle.decide_resource.proofs.shared.append_vary.Goals as goal

pub returns-in-Ok : goal.returns-in-Ok
returns-in-Ok c = ap (λ (m : Entries FieldValue). lines_at m (codes "vary")) c.in-Ok.ensures.ok
    ∙ ap lines_of (get_all-append_same c.args.response.now (codes "vary") c.args.line)
    ∙ map-append (λ (value : FieldValue). value.bytes) (get_all c.args.response.now (codes "vary")) _
