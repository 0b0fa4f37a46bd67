use Rattle.std.{proofs.Common.{rules, Some, subst, sym}, specs.Fn.FnOnceReturnsAtMut}
use Rattle.{c_handles.specs.declared.held.Held.{Held, TheVariants.{Gate, Tunnel}}, c_gate.specs.Calls.OnEither}
use Rattle.c_gate.proofs.calling.change_either_in.Goals as goal

pub returns-in-Gate : goal.returns-in-Gate
returns-in-Gate g c = subst
    (λ (held : Held). OnEither (λ old new answer. FnOnceReturnsAtMut g.F.FnOnce c.args.step old answer new)
    (λ old new answer. FnOnceReturnsAtMut g.G.FnOnce c.args.tunnel_step old answer new)
    (Some held) (Some (Gate c.step.new.arg2)) c.step.result) (sym c.in-Gate.is) (search rules)

pub returns-in-Tunnel : goal.returns-in-Tunnel
returns-in-Tunnel g c = subst
    (λ (held : Held). OnEither (λ old new answer. FnOnceReturnsAtMut g.F.FnOnce c.args.step old answer new)
    (λ old new answer. FnOnceReturnsAtMut g.G.FnOnce c.args.tunnel_step old answer new)
    (Some held) (Some (Tunnel c.tunnel_step.new.arg2)) c.tunnel_step.result) (sym c.in-Tunnel.is) (search rules)
