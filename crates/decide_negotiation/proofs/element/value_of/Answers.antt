use Rattle.{std.proofs.Common.sym, decide_negotiation.proofs.ElementLemmas.{value_of-none, value_of-read}}
use Rattle.decide_negotiation.proofs.element.value_of.Goals as goal

pub returns-in-Ok : goal.returns-in-Ok
returns-in-Ok c = value_of-read c.args.text.now _ _ c.in-Ok.ensures

pub returns-in-Err : goal.returns-in-Err
returns-in-Err c = sym (value_of-none c.args.text.now c.in-Err.ensures)
