use Rattle.{std.proofs.Common.{rules, Ok, Option, subst, sym}, c_handles.specs.declared.held.Held.Held}
use Rattle.c_gate.{specs.{Calls.OnGate, Origins.{IsTaken, TakesOver}}, proofs.CallLemmas.taken_over}
use Rattle.c_gate.proofs.forwarding.take_origin.Goals as goal

pub returns : goal.returns
returns c =
    let old = c.args.handle.now.held in
    let new = c.change.new.handle.held in
    let origin = c.in_ok-connection.connection in
    let taken : OnGate IsTaken old new (Ok origin) = search rules in
    let after = c.put_origin.new.handle.held in
    subst (λ (before : Option Held). TakesOver old new before after c.put_origin.result)
    (sym c.in_default.ensures.taken) (taken_over old new origin after c.put_origin.result taken c.put_origin.ensures)
