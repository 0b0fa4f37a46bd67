use Rattle.std.proofs.lemmas.Result.{IfOk-weaker}
use Rattle.c_gateway.proofs.response.step_of.Goals as goal

pub returns : goal.returns
returns c = IfOk-weaker c.show.result _ _ (λ step shown. record {
  outcome = c.in_ok-outcome.outcome;
  is_outcome = c.in_ok-outcome.ensures.ok;
  is_shown = shown;
}) c.show.ensures
