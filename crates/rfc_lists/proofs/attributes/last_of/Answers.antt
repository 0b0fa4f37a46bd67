use Rattle.{std.proofs.Common.sym, rfc_lists.proofs.AttributeLemmas.{last_value, next_value}}
use Rattle.rfc_lists.proofs.attributes.last_of.Goals as goal

pub loop-attribute-preserved : goal.loop-attribute-preserved
loop-attribute-preserved c =
    let cut = rw c.in-Some.is at (sym c.cut.ensures) in
    next_value c.args.known c.loop-attribute.left.now _ _ _ _ c.or-last.ensures c.loop-attribute.invariant _ _ cut
    c.value_of.ensures

pub returns : goal.returns
returns c =
    let none = rw c.in_default.is at (sym c.cut.ensures) in
    last_value c.args.known c.loop-attribute.left.now _ _ _ _ c.or.ensures c.loop-attribute.invariant none
    c.value_of-2.ensures
