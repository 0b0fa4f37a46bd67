use Rattle.std.proofs.Common.{rules, Option, Ok, Err, refl, subst}
use Rattle.{c_parts.specs.declared.status.Failure.TheVariants.Absent, c_pass.specs.declared.held.Stepped.Stepped}
use Rattle.c_handles.specs.Passes.{ShowsFields}
use Rattle.c_handles.proofs.passing.write_in.Goals as goal

pub returns-in-Some : goal.returns-in-Some
returns-in-Some c = (
  Ok c.as_slice.result.now,
  subst (λ (it : Option Stepped). ShowsFields it (Ok c.as_slice.result.now)) c.in-Some.ensures (search rules),
  c.copy_into.ensures,
)

pub returns-in-None : goal.returns-in-None
returns-in-None c = (
  Err Absent,
  subst (λ (it : Option Stepped). ShowsFields it (Err Absent)) c.in-None.ensures refl,
  (c.status.ensures, refl, refl),
)
