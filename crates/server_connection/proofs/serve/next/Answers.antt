use Rattle.server_connection.proofs.serve.next.Goals as goal

pub returns-then-was_open-clause-moves : goal.returns-then-was_open-clause-moves
returns-then-was_open-clause-moves g c = c.next-event.ensures.moves c.args.handler.now

pub returns-then-was_open-clause-rests : goal.returns-then-was_open-clause-rests
returns-then-was_open-clause-rests g c =
    λ says config first. c.next-event.ensures.rests says config first c.args.handler.now

pub returns-then-was_open-clause-ended : goal.returns-then-was_open-clause-ended
returns-then-was_open-clause-ended g c = c.next-event.ensures.ended c.args.handler.now

pub returns-else-was_open-clause-moves : goal.returns-else-was_open-clause-moves
returns-else-was_open-clause-moves g c = c.next-event.ensures.moves c.args.handler.now

pub returns-else-was_open-clause-rests : goal.returns-else-was_open-clause-rests
returns-else-was_open-clause-rests g c =
    λ says config first. c.next-event.ensures.rests says config first c.args.handler.now

pub returns-else-was_open-clause-ended : goal.returns-else-was_open-clause-ended
returns-else-was_open-clause-ended g c = c.next-event.ensures.ended c.args.handler.now
