use Rattle.{std.proofs.Common.inl, http_server.proofs.MachineLemmas.{busy, may_abort}}
use Rattle.server_connection.{specs.Machine.core_asking, proofs.TurnLemmas.{runs_aborted, step_answers}}
use Rattle.server_connection.proofs.machine.Machine.give_up.Goals as goal

pub returns : goal.returns
returns g c = λ before now.
    let plans = g.A.Application.plans in
    let gives = g.A.Application.gives in
    let old = c.args.self.now in
    let new = c.abort.new.self in
    let abort = c.abort.ensures in
    step_answers old new before now abort.keeps.config abort.keeps.ended c.requires (λ first p chain laid x.
    let k = core_asking old p in
    runs_aborted plans gives first before now old new p x.base.is_open abort.keeps.config abort.keeps.phase
    (abort.state, abort.output) chain laid
    (abort.reaches p (may_abort k x.base (busy k.config k.history x.reads.head) (inl x.calls))))
