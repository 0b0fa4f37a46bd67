use Rattle.headers_items.proofs.WalkRuns.{walk_runs}
use Rattle.headers_items.proofs.flat_csv.FlatCsv.iter.Goals as goal

pub returns-clause-runs : goal.returns-clause-runs
returns-clause-runs g c = walk_runs
