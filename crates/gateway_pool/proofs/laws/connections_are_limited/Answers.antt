use Rattle.std.proofs.Common.{◌≤◌, subst}
use Rattle.std.specs.Prelude.{count_by}
use Rattle.gateway_pool.specs.declared.pool.PoolRules.{PoolRules}
use Rattle.gateway_pool.{specs.Histories.run, specs.Pools.{is_idle_at, is_used_at, start}}
use Rattle.gateway_pool.proofs.Limits.{are_within, run-rules}
use Rattle.gateway_pool.proofs.laws.connections_are_limited.Goals as goal

pub returns : goal.returns
returns c rules origins events origin right =
    let within = are_within rules origins events right in
    let pool = run events (start rules origins) in (
      subst (λ (r : PoolRules). count_by (is_used_at origin) pool.connections ≤ r.most)
          (run-rules events (start rules origins)) (within.used origin),
      subst (λ (r : PoolRules). count_by (is_idle_at origin) pool.connections ≤ r.idle)
          (run-rules events (start rules origins)) (within.idle origin),
    )
