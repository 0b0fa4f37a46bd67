use Rattle.std.{proofs.Common.{rules, Some, subst, sym}, specs.Fn.FnOnceReturnsAtMut}
use Rattle.{c_handles.specs.declared.held.Held.{Held, TheVariants.GatePool}, c_gate.specs.Pool.OnPool}
use Rattle.c_gate.proofs.pool.change_in.Goals as goal

pub returns-in-GatePool : goal.returns-in-GatePool
returns-in-GatePool g c = subst
    (λ (held : Held). OnPool (λ old new answer. FnOnceReturnsAtMut g.F.FnOnce c.args.step old answer new)
    (Some held) (Some (GatePool c.step.new.arg2)) c.step.result) (sym c.in-GatePool.is) (search rules)
