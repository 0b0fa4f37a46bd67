use Rattle.decide_resource.proofs.OwnFieldLemmas.{same_tag}
use Rattle.decide_resource.proofs.laws.not_modified_has_the_tag.Goals as goal

pub returns : goal.returns
returns c present resource request a b p q before = same_tag present resource request a b p q before
