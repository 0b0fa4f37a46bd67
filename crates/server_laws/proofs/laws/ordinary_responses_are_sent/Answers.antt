use Rattle.server_laws.proofs.Served.{plan_sent}
use Rattle.server_laws.proofs.laws.ordinary_responses_are_sent.Goals as goal

pub returns : goal.returns
returns c = plan_sent
