use Rattle.rfc_fields.proofs.FieldLemmas.{not_clear}
use Rattle.rfc_fields.proofs.field.is_clear_of.Goals as goal

pub returns-in-Ok-Some : goal.returns-in-Ok-Some
returns-in-Ok-Some c = not_clear _ _ _ (rw c.in-Ok-Some.field-0-is at c.in-Ok-Some.ensures)
