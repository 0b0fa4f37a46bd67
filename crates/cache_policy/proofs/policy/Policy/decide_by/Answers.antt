use Rattle.std.proofs.Common.{inl}
use Rattle.cache_policy.proofs.policy.Policy.decide_by.Goals as goal

pub returns-then-matches : goal.returns-then-matches
returns-then-matches c = inl (
  rw c.if-matches.true at c.matches.ensures,
  rw c.read_governing.ensures at c.decide_by_directives.ensures,
)
