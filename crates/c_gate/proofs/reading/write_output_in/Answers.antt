use Rattle.std.proofs.Common.{ℕ, List, length, Option, Err, refl, subst}
use Rattle.{c_parts.specs.declared.status.Failure.TheVariants.Absent, c_handles.specs.Handles.OnHeld}
use Rattle.c_gate.specs.Texts.{IsFront}
use Rattle.c_gate.proofs.reading.write_output_in.Goals as goal

pub returns-in-None : goal.returns-in-None
returns-in-None c = (
  Err Absent,
  subst (λ (waiting : Option (List ℕ × List ℕ)).
      OnHeld (IsFront c.args.side (length c.args.room.now)) waiting (Err Absent)) c.in-None.ensures refl,
  (c.status.ensures, refl, refl),
)
