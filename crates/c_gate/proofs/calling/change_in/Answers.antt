use Rattle.std.{proofs.Common.{rules, Some, subst, sym}, specs.Fn.FnOnceReturnsAtMut}
use Rattle.{c_handles.specs.declared.held.Held.{Held, TheVariants.Gate}, c_gate.specs.Calls.OnGate}
use Rattle.c_gate.proofs.calling.change_in.Goals as goal

pub returns-in-Gate : goal.returns-in-Gate
returns-in-Gate g c = subst
    (λ (held : Held). OnGate (λ old new answer. FnOnceReturnsAtMut g.F.FnOnce c.args.step old answer new)
    (Some held) (Some (Gate c.step.new.arg2)) c.step.result) (sym c.in-Gate.is) (search rules)
