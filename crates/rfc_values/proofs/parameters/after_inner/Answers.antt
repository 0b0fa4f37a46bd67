use Rattle.rfc_values.proofs.{ItemLemmas.inner_lists-take, RepeatLemmas.{all-ends, all-fails, all-goes}}
use Rattle.{rfc_values.specs.Items.inner_step, std.proofs.Common.{arith, sym, ◌∙◌}}
use Rattle.rfc_values.proofs.parameters.after_inner.Goals as goal

pub returns-in-Ends : goal.returns-in-Ends
returns-in-Ends c =
    sym (c.loop-after.invariant ∙ all-ends inner_step c.loop-after.rest.now c.in-Ends.after.now (sym c.in-Ends.ensures))

pub returns-in-Fails : goal.returns-in-Fails
returns-in-Fails c = grind (arith, all-fails)

pub loop-after-preserved : goal.loop-after-preserved
loop-after-preserved c = grind (arith, all-goes, inner_lists-take)

pub loop-after-smaller : goal.loop-after-smaller
loop-after-smaller c = inner_lists-take c.loop-after.rest.now c.in-Goes.after.now (sym c.in-Goes.ensures)
