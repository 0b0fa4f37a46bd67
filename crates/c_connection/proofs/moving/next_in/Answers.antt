use Rattle.std.proofs.Common.{refl}
use Rattle.c_connection.proofs.moving.next_in.Goals as goal

pub returns : goal.returns
returns c = (
  c.next-event.ensures.moves,
  refl,
  c.next-event.result,
  c.event_number.ensures,
  c.next-event.ensures.said,
  c.rejection_by-held.ensures,
  c.next-event.ensures.rests,
)
