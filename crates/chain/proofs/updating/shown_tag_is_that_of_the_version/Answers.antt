use Rattle.chain.proofs.NameLemmas.{tag_line}
use Rattle.chain.proofs.updating.shown_tag_is_that_of_the_version.Goals as goal

pub returns : goal.returns
returns c = tag_line
