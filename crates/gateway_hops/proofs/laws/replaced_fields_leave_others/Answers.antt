use Rattle.gateway_hops.proofs.ReplacedLemmas.{replaced_framing, replaced_others}
use Rattle.gateway_hops.proofs.laws.replaced_fields_leave_others.Goals as goal

pub returns-clause-others : goal.returns-clause-others
returns-clause-others c = replaced_others

pub returns-clause-framing : goal.returns-clause-framing
returns-clause-framing c = replaced_framing
