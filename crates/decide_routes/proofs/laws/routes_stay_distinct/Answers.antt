use Rattle.decide_routes.proofs.DistinctLemmas.{distinct_inserted}
use Rattle.decide_routes.proofs.laws.routes_stay_distinct.Goals as goal

pub returns : goal.returns
returns g c = distinct_inserted
