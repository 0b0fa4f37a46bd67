use Rattle.decide_handshake.proofs.HandshakeLemmas.{opens_for, opens_for_sender, refusal_opens_none}
use Rattle.decide_handshake.proofs.laws.ends_agree.Goals as goal

pub returns-clause-own : goal.returns-clause-own
returns-clause-own c method version request origins own a map response h s carries =
    opens_for_sender method version request origins own a map response h s carries

pub returns-clause-others : goal.returns-clause-others
returns-clause-others c method version request origins own a map response sent key other h s has sends carries =
    opens_for method version request origins own a map response sent key other h s has sends carries

pub returns-clause-refusals : goal.returns-clause-refusals
returns-clause-refusals c a sent response refuses = refusal_opens_none a sent response refuses
