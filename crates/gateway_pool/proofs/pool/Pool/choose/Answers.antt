use Rattle.std.proofs.Common.{◌∙◌, arith, sym}
use Rattle.gateway_pool.specs.{Choices.{may_take, rank}, Pools.{state_of}}
use Rattle.gateway_pool.proofs.Choices.{IsFirst-all, IsFirstBelow-better, IsFirstBelow-no, IsFirstBelow-worse}
use Rattle.gateway_pool.proofs.pool.Pool.choose.Goals as goal
use Rattle.gateway_pool.proofs.pool.Pool.choose.Goals.{then-may_take+then-comes_first, then-may_take+else-comes_first}
use Rattle.gateway_pool.proofs.pool.Pool.choose.Goals.{else-may_take}

pub loop-origin-preserved : goal.loop-origin-preserved
loop-origin-preserved c =
    let may = may_take c.args.request (state_of c.args.self.now) in
    let ranks = rank c.args.now c.args.key (state_of c.args.self.now) in
    elim c.if-may_take.branch [
      | then-may_take+then-comes_first w ↦ rw (w.best-is, w.least-is, w.rank-rank.ensures)
          (IsFirstBelow-better may ranks c.loop-origin.origin c.loop-origin.best c.loop-origin.least
          (sym c.may_take.ensures ∙ w.if-may_take.true)
          (rw (← w.rank-rank.ensures) (sym w.comes_first.ensures ∙ w.if-comes_first.true)) c.loop-origin.invariant)
      | then-may_take+else-comes_first w ↦ rw (w.best-is, w.least-is)
          (IsFirstBelow-worse may ranks c.loop-origin.origin c.loop-origin.best c.loop-origin.least
          (rw (← w.rank-rank.ensures) (sym w.comes_first.ensures ∙ w.if-comes_first.false)) c.loop-origin.invariant)
      | else-may_take w ↦ rw (w.best-is, w.least-is)
          (IsFirstBelow-no may ranks c.loop-origin.origin c.loop-origin.best c.loop-origin.least
          (sym c.may_take.ensures ∙ w.if-may_take.false) c.loop-origin.invariant)
    ]

pub returns : goal.returns
returns c =
    IsFirst-all (may_take c.args.request (state_of c.args.self.now))
    (rank c.args.now c.args.key (state_of c.args.self.now)) c.loop-origin.origin c.loop-origin.best c.loop-origin.least
    (λ o may. grind (arith, may, c.loop-origin-test.false, c.len-origin-end.ensures)) c.loop-origin.invariant
