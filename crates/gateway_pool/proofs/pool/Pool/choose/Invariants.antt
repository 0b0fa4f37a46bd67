use Rattle.gateway_pool.specs.{Choices.{may_take, rank}, Pools.state_of}
use Rattle.gateway_pool.proofs.Choices.{IsFirstBelow}
use Rattle.gateway_pool.proofs.pool.Pool.choose.Given as goal

abbrev pub invariant-loop-origin : goal.invariant-loop-origin
invariant-loop-origin l =
    IsFirstBelow (may_take l.request (state_of l.self)) (rank l.now l.key (state_of l.self)) l.origin l.best l.least
