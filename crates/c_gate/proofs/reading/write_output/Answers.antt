use Rattle.{std.proofs.Common.{rules, Err, refl}, c_parts.specs.declared.status.Failure.TheVariants.Absent}
use Rattle.c_gate.proofs.reading.write_output.Goals as goal

pub returns-in_default-clause-output : goal.returns-in_default-clause-output
returns-in_default-clause-output c = (Err Absent, search rules, (c.status.ensures, refl, refl))
