use Rattle.std.proofs.Common.{◌+◌, sym, ap, ◌∙◌}
use Rattle.server_connection.{specs.Pieces.total_len, proofs.PieceLemmas.total_len-push}
use Rattle.server_connection.proofs.plan.ResponsePlan.push.Goals as goal

pub invariant_of-self-2 : goal.invariant_of-self-2
invariant_of-self-2 c = record {
  is_len = c.in-Some.ensures.1 ∙ (λ i. c.args.self.now.is_len i + c.len.ensures i) ∙ sym (total_len-push _ c.args.piece)
      ∙ sym (ap total_len c.in_ok-push_back.ensures.items);
}
