use Rattle.{std.proofs.Common.{rules, Err, refl}, c_parts.specs.declared.status.Failure.TheVariants.Absent}
use Rattle.c_gate.proofs.reading.write_text.Goals as goal

pub returns-in_default : goal.returns-in_default
returns-in_default c = (search rules, (Err Absent, search rules, (c.status.ensures, refl, refl)))
