use Rattle.{std.proofs.Common.{◌≡◌, ℕ, false, List, refl, sym, ap, ◌∙◌, subst, inl, inr}, http.specs.Request.head_of}
use Rattle.{http1.specs.{Framing.method_kind, Server.is_head}, http_server.specs.Exchange.ArePartsOf}
use Rattle.http_server.proofs.MachineLemmas.{busy, may_abort}
use Rattle.server_connection.specs.{declared.machine.{Machine.Machine, Phase.TheVariants.Receiving}, Machine.IsSending}
use Rattle.server_connection.{specs.Machine.core_asking, proofs.{SendLemmas.begins, TurnLemmas.{aborted, headed}}}
use Rattle.server_connection.proofs.TurnLemmas.{runs_aborted, runs_by, step_answers, view_begun}
use Rattle.server_connection.proofs.machine.Machine.respond.Goals as goal

pub returns : goal.returns
returns g c = λ before now planned.
    let plans = g.A.Application.plans in
    let gives = g.A.Application.gives in
    let old = c.args.self.now in
    let new = c.start.new.self in
    let middle : Machine = record old {
      phase = Receiving;
      has_head = false;
      body = c.clear.new.self;
      request = c.release.new.request;
    } in
    elim c.start.ensures [
      | inl begun ↦ step_answers old new before now begun.config begun.ended c.requires (λ first p chain laid x.
          let k = core_asking old p in
          let are = subst (ArePartsOf x.message.head) (headed old.has_head (head_of old.request) x.parts x.head)
          x.are_parts in
          let kind : c.is_head-is_head.result ≡ is_head (method_kind x.message.head.method) = c.is_head-is_head.ensures
          ∙ ap (λ (m : List ℕ). is_head (method_kind m)) (c.method.ensures ∙ are.method) in
          runs_by plans gives first now new p begun.phase (
            before,
            chain,
            subst (IsSending plans gives first before now)
                (sym (view_begun p c.args.plan c.is_head-is_head.result middle new begun refl c.clear.ensures.items))
                (begins plans gives first before now k x laid old.request are refl c.args.plan planned
                c.is_head-is_head.result kind new.server new.output.items new.tail.items begun.frames),
          ))
      | inr over ↦ step_answers old new before now over.config over.ended c.requires (λ first p chain laid x.
          let k = core_asking old p in
          runs_aborted plans gives first before now old new p x.base.is_open over.config over.phase
          (over.state, over.output) chain laid
          (aborted p middle new over (may_abort k x.base (busy k.config k.history x.reads.head) (inl x.calls))))
    ]
