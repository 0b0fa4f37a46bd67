use Rattle.{std.proofs.Common.{rules, Ok, Err, refl}, c_parts.specs.declared.status.Failure.TheVariants.Refused}
use Rattle.c_gate.proofs.reading.write_front.Goals as goal

pub returns-in-0 : goal.returns-in-0
returns-in-0 c = (Ok c.front_of.result.now, search rules, c.copy_into.ensures)

pub returns-in-1 : goal.returns-in-1
returns-in-1 c = (Ok c.front_of-in-1.result.now, search rules, c.copy_into-in-1.ensures)

pub returns-in_default : goal.returns-in_default
returns-in_default c = (Err Refused, search rules, (c.status.ensures, refl, refl))
