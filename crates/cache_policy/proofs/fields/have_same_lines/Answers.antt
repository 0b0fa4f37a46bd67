use Rattle.cache_policy.proofs.VaryLemmas.{equal_lines}
use Rattle.cache_policy.proofs.fields.have_same_lines.Goals as goal

pub returns : goal.returns
returns c = equal_lines c.eq_values.result c.args.lines.now c.args.others.now c.eq_values.ensures
