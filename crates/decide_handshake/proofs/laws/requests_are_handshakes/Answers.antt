use Rattle.decide_handshake.proofs.HandshakeLemmas.{asking_is_handshake, offering_is_handshake}
use Rattle.decide_handshake.proofs.laws.requests_are_handshakes.Goals as goal

pub returns-clause-bare : goal.returns-clause-bare
returns-clause-bare c key map request valid host carries = asking_is_handshake key map request valid host carries

pub returns-clause-offering : goal.returns-clause-offering
returns-clause-offering c key map request valid host carries protocols extensions =
    offering_is_handshake key map request valid host carries protocols extensions
