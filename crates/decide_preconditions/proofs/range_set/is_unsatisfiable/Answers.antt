use Rattle.decide_preconditions.{specs.RangeSets.elements, proofs.RangeSetLemmas.asked_or_not}
use Rattle.decide_preconditions.proofs.range_set.is_unsatisfiable.Goals as goal

pub returns : goal.returns
returns c = asked_or_not c.args.len (elements c.args.set.now) c.is_satisfiable.result c.is_satisfiable.ensures
