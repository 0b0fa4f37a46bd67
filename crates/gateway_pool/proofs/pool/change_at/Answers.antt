use Rattle.std.proofs.Common.{◌≡◌, ◌∙◌, arith, length, sym}
use Rattle.std.proofs.lemmas.List.{get_or-map, length-map, same_lists}
use Rattle.gateway_pool.specs.Pools.{changed_at}
use Rattle.gateway_pool.proofs.pool.change_at.Goals as goal

pub returns : goal.returns
returns c =
    let same : length c.loop-connection.connections ≡ length c.args.connections.now =
    c.loop-connection.auto.connections in
    same_lists _ _ (same ∙ sym (length-map c.args.connections.now (changed_at c.args.change c.args.number)))
    (λ k d lt. c.loop-connection.invariant.done k d (omega (arith, lt, c.loop-connection-test.false))
    ∙ sym (get_or-map (changed_at c.args.change c.args.number) c.args.connections.now k d d (omega (arith, lt, same))))
