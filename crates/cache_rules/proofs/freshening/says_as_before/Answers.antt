use Rattle.{cache_policy.proofs.VaryLemmas.equal_lines, cache_rules.proofs.FresheningLemmas.as_before}
use Rattle.cache_rules.proofs.freshening.says_as_before.Goals as goal

pub returns-then-has_line : goal.returns-then-has_line
returns-then-has_line c = as_before _ _ _ c.if-has_line.ensures.present (equal_lines _ _ _ c.eq_values.ensures)

pub returns-else-has_line : goal.returns-else-has_line
returns-else-has_line c = λ has. absurd (c.if-has_line.ensures.present has)
