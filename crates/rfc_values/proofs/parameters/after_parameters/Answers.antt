use Rattle.rfc_values.proofs.{ItemLemmas.parameters-take, RepeatLemmas.{all-ends, all-fails, all-goes}}
use Rattle.std.proofs.Common.{arith, sym}
use Rattle.rfc_values.proofs.parameters.after_parameters.Goals as goal

pub returns-in-Ends : goal.returns-in-Ends
returns-in-Ends c = grind (arith, all-ends)

pub returns-in-Fails : goal.returns-in-Fails
returns-in-Fails c = grind (arith, all-fails)

pub loop-after-preserved : goal.loop-after-preserved
loop-after-preserved c = grind (arith, all-goes, parameters-take)

pub loop-after-smaller : goal.loop-after-smaller
loop-after-smaller c = parameters-take c.loop-after.rest.now c.in-Goes.after.now (sym c.in-Goes.ensures)
