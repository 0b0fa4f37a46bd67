use Rattle.std.{proofs.Common.{rules, Some, subst, sym}, specs.Fn.FnOnceReturnsAtMut}
use Rattle.{c_handles.specs.declared.held.Held.{Held, TheVariants.Connection}, c_connection.specs.Calls.OnConnection}
use Rattle.c_connection.proofs.calling.change_in.Goals as goal

pub returns-in-Connection : goal.returns-in-Connection
returns-in-Connection g c = subst
    (λ (held : Held). OnConnection (λ old new answer. FnOnceReturnsAtMut g.F.FnOnce c.args.step old answer new)
    (Some held) (Some (Connection c.step.new.arg2)) c.step.result) (sym c.in-Connection.is) (search rules)
