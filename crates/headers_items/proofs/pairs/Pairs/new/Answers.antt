use Rattle.std.proofs.Common.{arith}
use Rattle.headers_items.{specs.ItemsState.items_left, proofs.PairLemmas.length-pairs, proofs.WalkRuns.walk_runs}
use Rattle.headers_items.proofs.pairs.Pairs.new.Goals as goal

pub returns-clause-count : goal.returns-clause-count
returns-clause-count c = let few = c.iter.ensures.count in omega (arith, length-pairs (items_left c.iter.result))

pub returns-clause-runs : goal.returns-clause-runs
returns-clause-runs c = walk_runs
