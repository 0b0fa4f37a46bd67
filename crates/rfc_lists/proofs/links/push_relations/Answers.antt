use Rattle.std.proofs.{lemmas.Result.on_ok_weaker, Common.{◌∙◌, ◌++◌, append_assoc, ap, sym}}
use Rattle.rfc_lists.{specs.Links.{relation_lines, relation_line}, proofs.SplitLemmas.{last_line, next_line}}
use Rattle.rfc_fields.specs.Grammar.{space}
use Rattle.rfc_lists.proofs.links.push_relations.Goals as goal

pub loop-relation-preserved : goal.loop-relation-preserved
loop-relation-preserved c =
    let cut = rw c.in-Some.is at (sym c.cut.ensures) in
    let next = next_line relation_line space c.loop-relation.left.now _ _ cut in
    let left = relation_lines c.in-Some.others.now in
    c.loop-relation.invariant ∙ ap (λ t. c.loop-relation.text.items ++ t) next
    ∙ sym (append_assoc c.loop-relation.text.items (relation_line c.in-Some.relation.now) left)
    ∙ ap (λ t. t ++ left) (sym c.in_ok-push_relation.ensures)

pub returns : goal.returns
returns c =
    let none = rw c.in_default.is at (sym c.cut.ensures) in
    let last = last_line relation_line space c.loop-relation.left.now none in
    let whole = ap (λ t. c.loop-relation.text.items ++ t) (sym last) ∙ sym c.loop-relation.invariant in
    on_ok_weaker c.push_relation-2.result (λ pushed. pushed ∙ whole) c.push_relation-2.ensures
