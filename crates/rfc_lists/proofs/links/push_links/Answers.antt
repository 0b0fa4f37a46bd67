use Rattle.std.proofs.{lemmas.Result.on_ok_weaker, Common.{◌∙◌, ◌++◌, append_assoc, ap, sym}}
use Rattle.{headers_syntax.specs.Text.trim, rfc_lists.{specs.Links.{line_text, link_text}, proofs.LinkLemmas.last_link}}
use Rattle.rfc_lists.proofs.LinkLemmas.{next_link}
use Rattle.rfc_lists.proofs.links.push_links.Goals as goal

pub loop-link-preserved : goal.loop-link-preserved
loop-link-preserved c =
    let cut = rw c.in-Some.is at (sym c.cut_link.ensures) in
    let next = next_link c.loop-link.left.now c.in-Some.link.now c.in-Some.others.now cut in
    let left = line_text c.in-Some.others.now in
    c.loop-link.invariant ∙ ap (λ t. c.loop-link.text.items ++ t) next
    ∙ sym (append_assoc c.loop-link.text.items (link_text (trim c.in-Some.link.now)) left)
    ∙ ap (λ t. t ++ left)
    (ap (λ t. c.loop-link.text.items ++ link_text t) (sym c.trim.ensures) ∙ sym c.in_ok-push_link.ensures)

pub returns : goal.returns
returns c =
    let none = rw c.in_default.is at (sym c.cut_link.ensures) in
    let last = last_link c.loop-link.left.now none in
    let pushes = ap link_text c.trim-2.ensures ∙ sym last in
    let whole = ap (λ t. c.loop-link.text.items ++ t) pushes ∙ sym c.loop-link.invariant in
    on_ok_weaker c.push_link-2.result (λ pushed. pushed ∙ whole) c.push_link-2.ensures
