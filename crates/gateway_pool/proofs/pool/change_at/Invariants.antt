use Rattle.std.proofs.Common.{◌≡◌, ◌<◌, ◌≤◌, ℕ, get_or}
use Rattle.gateway_pool.specs.{Pools.changed_at, declared.pool.PooledConnection.PooledConnection}
use Rattle.gateway_pool.proofs.pool.change_at.Given as goal

abbrev pub invariant-loop-connection : goal.invariant-loop-connection
invariant-loop-connection l = record {
  done : (k : ℕ) (d : PooledConnection) → k < l.connection-index
      → get_or l.connections k d ≡ changed_at l.change l.number (get_or l.fn.connections k d);
  rest : (k : ℕ) (d : PooledConnection) → l.connection-index ≤ k
      → get_or l.connections k d ≡ get_or l.fn.connections k d;
}
