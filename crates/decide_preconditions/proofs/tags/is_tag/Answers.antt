use Rattle.{std.proofs.Common.◌∙◌, headers_syntax.proofs.EntityTagLemmas.is_tag_found}
use Rattle.decide_preconditions.proofs.tags.is_tag.Goals as goal

pub returns : goal.returns
returns c = c.is_some.ensures ∙ is_tag_found c.args.text.now c.parse.result c.parse.ensures
