use Rattle.{std.proofs.Common.{[], inr, arith}, server_connection.proofs.TurnLemmas.Consumes-none}
use Rattle.server_connection.proofs.machine.Machine.drop_content.Goals as goal

pub returns-in-Ok-clause-drops : goal.returns-in-Ok-clause-drops
returns-in-Ok-clause-drops g c =
    let was = c.unwanted.ensures (omega (arith, c.if-unwanted-eq0.false)) in
    let read = c.in-Ok.ensures.ok in (
      read.0,
      inr (record {
        state = was.0;
        phase = was.1;
        between = record (c.args.self.now) { dropped = c.saturating_add-self.result; input = c.clear.new.self };
        empties = assumption;
        takes = read.1;
      }),
      read.2,
    )

pub returns-in-Err-clause-drops : goal.returns-in-Err-clause-drops
returns-in-Err-clause-drops g c =
    let was = c.unwanted.ensures (omega (arith, c.if-unwanted-eq0.false)) in
    let read = c.in-Err.ensures.err in (
      [],
      inr (record {
        state = was.0;
        phase = was.1;
        between = record (c.args.self.now) { dropped = c.saturating_add-self.result; input = c.clear.new.self };
        empties = assumption;
        takes = read.0;
      }),
      Consumes-none _ _ read.2,
    )

pub returns-in-Ok-clause-end : goal.returns-in-Ok-clause-end
returns-in-Ok-clause-end g c = λ e.
    let was = c.unwanted.ensures (omega (arith, c.if-unwanted-eq0.false)) in inr (c.in-Ok.ensures.end was.2 e)

pub returns-in-Err-clause-end : goal.returns-in-Err-clause-end
returns-in-Err-clause-end g c = λ e.
    let was = c.unwanted.ensures (omega (arith, c.if-unwanted-eq0.false)) in
    absurd (cc (was.2, c.in-Err.ensures.err.1, e))
