-- What a call that only reads leaves.
use Rattle.std.specs.Prelude.{◌≡◌}
use Rattle.c_handles.specs.declared.view.View.{View}

-- the caller has back what it lent
pub record IsSame (old new : View) : Type 0 where
  pub held : new.held ≡ old.held
  pub life : new.life ≡ old.life
  pub parts : new.parts ≡ old.parts
