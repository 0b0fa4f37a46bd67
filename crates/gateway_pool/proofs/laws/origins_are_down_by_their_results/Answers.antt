use Rattle.gateway_pool.{specs.Pools.start, proofs.Limits.run-rules, proofs.Origins.{chosen-down, is_down-results}}
use Rattle.gateway_pool.proofs.laws.origins_are_down_by_their_results.Goals as goal

pub returns-clause-down : goal.returns-clause-down
returns-clause-down c rules origins events now origin low small =
    is_down-results rules origins events now origin low small (run-rules events (start rules origins))

pub returns-clause-last : goal.returns-clause-last
returns-clause-last c = chosen-down
