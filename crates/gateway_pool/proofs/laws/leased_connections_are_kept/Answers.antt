use Rattle.gateway_pool.{specs.Choices.idle_one, specs.Histories.run, specs.Pools.start}
use Rattle.gateway_pool.proofs.Kept.{are_sound, leased-kept}
use Rattle.gateway_pool.proofs.laws.leased_connections_are_kept.Goals as goal
use Rattle.std.proofs.Common.{refl}

pub returns : goal.returns
returns c rules origins events request now key number origin right =
    leased-kept events (run events (start rules origins)).next (run events (start rules origins)) number origin
    (are_sound rules origins events right.1) (idle_one origin (run events (start rules origins))) refl right.0.2
