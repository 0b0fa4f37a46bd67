use Rattle.{std.{proofs.Common.{rules, Option, subst}, specs.Fn.FnOnceReturnsAt}, c_handles.specs.Handles.OnHeld}
use Rattle.c_handles.specs.declared.held.HeldConnection.{HeldConnection}
use Rattle.c_connection.proofs.calling.ask_in.Goals as goal

pub returns-in-Some : goal.returns-in-Some
returns-in-Some g c = subst
    (λ (held : Option HeldConnection). OnHeld (FnOnceReturnsAt g.F.FnOnce c.args.question) held c.question.result)
    c.in-Some.ensures (search rules)
