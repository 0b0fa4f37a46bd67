use Rattle.std.proofs.Common.{◌∙◌, sym}
use Rattle.decide_negotiation.proofs.ElementLemmas.{members_after-none, members_after-read, no_members}
use Rattle.decide_negotiation.proofs.element.members_after.Goals as goal

pub returns-in-Ok : goal.returns-in-Ok
returns-in-Ok c = members_after-read c.args.text.now _ _ c.in-Ok.ensures

pub returns-in-Err : goal.returns-in-Err
returns-in-Err c = c.new.ensures.members ∙ no_members ∙ sym (members_after-none c.args.text.now c.in-Err.ensures)
