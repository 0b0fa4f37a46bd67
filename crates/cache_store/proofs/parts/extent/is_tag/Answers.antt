use Rattle.{headers_syntax.proofs.EntityTagLemmas.is_tag_found, std.proofs.Common.◌∙◌}
use Rattle.cache_store.proofs.parts.extent.is_tag.Goals as goal

pub returns : goal.returns
returns c = c.is_some.ensures ∙ is_tag_found c.args.text.now c.parse.result c.parse.ensures
