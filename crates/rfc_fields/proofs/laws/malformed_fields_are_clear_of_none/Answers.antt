use Rattle.rfc_fields.proofs.FieldLemmas.{malformed_is_clear_of_none as law}
use Rattle.rfc_fields.proofs.laws.malformed_fields_are_clear_of_none.Goals as goal

pub returns : goal.returns
returns c = law
