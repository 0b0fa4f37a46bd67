use Rattle.decide_resource.proofs.OwnFieldLemmas.{same_date}
use Rattle.decide_resource.proofs.laws.not_modified_has_the_date.Goals as goal

pub returns : goal.returns
returns c present resource request a b p q before = same_date present resource request a b p q before
