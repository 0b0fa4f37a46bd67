use Rattle.std.proofs.Common.{rules, List, Option, Result, Ok, Err, ℕ, refl, subst}
use Rattle.{c_parts.specs.declared.status.Failure.{Failure, TheVariants.Absent}, c_handles.specs.Handles.OnHeld}
use Rattle.{c_handles.specs.declared.held.HeldConnection.HeldConnection, c_connection.specs.Calls.IsText}
use Rattle.c_connection.proofs.reading.write_in.Goals as goal

pub returns-in_default : goal.returns-in_default
returns-in_default c = (
  Err Absent,
  subst (λ (held : Option HeldConnection). OnHeld (IsText c.args.text) held (Err Absent)) c.in_default.ensures refl,
  (c.status.ensures, refl, refl),
)

pub returns-in-Ok : goal.returns-in-Ok
returns-in-Ok c = (
  Ok c.in-Ok.bytes.now,
  subst (λ (held : Option HeldConnection). OnHeld (IsText c.args.text) held (Ok c.in-Ok.bytes.now))
      c.in-Some.ensures (search rules),
  c.copy_into.ensures,
)

pub returns-in-Err : goal.returns-in-Err
returns-in-Err c = (
  Err c.in-Err.failure,
  subst (λ (held : Option HeldConnection). OnHeld (IsText c.args.text) held (Err c.in-Err.failure))
      c.in-Some.ensures (search rules),
  (c.status-in-Err.ensures, refl, refl),
)
