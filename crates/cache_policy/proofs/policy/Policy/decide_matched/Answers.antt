use Rattle.cache_policy.proofs.policy.Policy.decide_matched.Goals as goal

pub returns : goal.returns
returns c = record {
  stated = c.lifetime_by-stated.result;
  lifetime = rw c.read_governing-by.ensures at c.lifetime_by-stated.ensures;
  answers = rw (← c.unwrap_or.ensures, ← c.current_age.ensures)
      (rw c.read_governing-by.ensures at c.decide_by_directives.ensures);
}
