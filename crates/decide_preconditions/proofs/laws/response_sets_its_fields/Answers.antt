use Rattle.decide_preconditions.proofs.FieldLemmas.{set_from_plan}
use Rattle.decide_preconditions.proofs.laws.response_sets_its_fields.Goals as goal

pub returns : goal.returns
returns c = set_from_plan
