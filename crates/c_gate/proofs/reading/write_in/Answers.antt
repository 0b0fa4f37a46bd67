use Rattle.{std.proofs.Common.{rules, Ok, Err, refl}, c_parts.specs.declared.status.Failure.TheVariants.Absent}
use Rattle.c_gate.proofs.reading.write_in.Goals as goal

pub returns-in_default : goal.returns-in_default
returns-in_default c = (Err Absent, search rules, (c.status.ensures, refl, refl))

pub returns-in-Ok : goal.returns-in-Ok
returns-in-Ok c = (Ok c.in-Ok.bytes.now, search rules, c.copy_into.ensures)

pub returns-in-Err : goal.returns-in-Err
returns-in-Err c = (Err c.in-Err.failure, search rules, (c.status-in-Err.ensures, refl, refl))
