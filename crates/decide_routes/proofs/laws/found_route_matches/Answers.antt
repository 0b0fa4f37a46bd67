use Rattle.decide_routes.proofs.MatchLemmas.{first_matches}
use Rattle.decide_routes.proofs.laws.found_route_matches.Goals as goal

pub returns : goal.returns
returns g c rows path route = first_matches rows path route
