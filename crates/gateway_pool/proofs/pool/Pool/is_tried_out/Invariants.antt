use Rattle.std.proofs.Common.{◌<◌, ℕ}
use Rattle.std.specs.Prelude.{IsTrue}
use Rattle.gateway_pool.specs.Pools.{state_of, was_tried}
use Rattle.gateway_pool.proofs.pool.Pool.is_tried_out.Given as goal

abbrev pub invariant-loop-origin : goal.invariant-loop-origin
invariant-loop-origin l = (o : ℕ) → o < l.origin → IsTrue (was_tried l.request o (state_of l.self))
