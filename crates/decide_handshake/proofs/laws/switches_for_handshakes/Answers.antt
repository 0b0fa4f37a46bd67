use Rattle.decide_handshake.proofs.ServerLemmas.{switch_if, switch_only}
use Rattle.decide_handshake.proofs.laws.switches_for_handshakes.Goals as goal

pub returns-clause-only : goal.returns-clause-only
returns-clause-only c method version request origins own a h s = switch_only method version request origins own a h s

pub returns-clause-all : goal.returns-clause-all
returns-clause-all c method version request origins own a key h k =
    switch_if method version request origins own a key h k
