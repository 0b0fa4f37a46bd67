use Rattle.std.proofs.{lemmas.Result.on_ok_weaker, Common.{◌∙◌, ◌++◌, append_assoc, ap, sym}}
use Rattle.rfc_lists.{specs.SetCookies.{other_lines, other_line}, proofs.SplitLemmas.{last_line, next_line}}
use Rattle.rfc_fields.specs.Grammar.{semicolon}
use Rattle.rfc_lists.proofs.set_cookies.push_others.Goals as goal

pub loop-attribute-preserved : goal.loop-attribute-preserved
loop-attribute-preserved c =
    let cut = rw c.in-Some.is at (sym c.cut.ensures) in
    let next = next_line other_line semicolon c.loop-attribute.left.now _ _ cut in
    let left = other_lines c.in-Some.others.now in
    c.loop-attribute.invariant ∙ ap (λ t. c.loop-attribute.text.items ++ t) next
    ∙ sym (append_assoc c.loop-attribute.text.items (other_line c.in-Some.attribute.now) left)
    ∙ ap (λ t. t ++ left) (sym c.in_ok-push_other.ensures)

pub returns : goal.returns
returns c =
    let none = rw c.in_default.is at (sym c.cut.ensures) in
    let last = last_line other_line semicolon c.loop-attribute.left.now none in
    let whole = ap (λ t. c.loop-attribute.text.items ++ t) (sym last) ∙ sym c.loop-attribute.invariant in
    on_ok_weaker c.push_other-2.result (λ pushed. pushed ∙ whole) c.push_other-2.ensures
