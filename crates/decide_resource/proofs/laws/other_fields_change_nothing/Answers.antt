use Rattle.decide_resource.proofs.OtherFieldLemmas.{other_fields}
use Rattle.decide_resource.proofs.laws.other_fields_change_nothing.Goals as goal

pub returns : goal.returns
returns c = other_fields
