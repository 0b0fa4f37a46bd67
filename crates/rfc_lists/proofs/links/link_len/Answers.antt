use Rattle.{std.proofs.Common.{◌≡◌, ◌∙◌, length, sym, arith}, rfc_lists.proofs.LinkLemmas.{at_end, here, next}}
use Rattle.rfc_lists.proofs.links.link_len.Goals as goal

pub returns-then-separates-clause-len : goal.returns-then-separates-clause-len
returns-then-separates-clause-len c =
    sym (here _ _ _ _ c.loop-index-test.true (sym c.separates.ensures ∙ c.if-separates.true) c.loop-index.invariant)

pub loop-index-preserved : goal.loop-index-preserved
loop-index-preserved c = next _ _ _ _ _ c.loop-index-test.true (sym c.separates.ensures ∙ c.if-separates.false)
    c.after-place.ensures c.loop-index.invariant

pub returns-clause-len : goal.returns-clause-len
returns-clause-len c =
    let all : length c.args.text.now ≡ c.loop-index.index =
    omega (arith, c.loop-index-test.false, c.loop-index.auto.index-end) in
    all ∙ sym (at_end c.loop-index.place c.loop-index.index c.args.text.now _ all c.loop-index.invariant)
