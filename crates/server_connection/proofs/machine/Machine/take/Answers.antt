use Rattle.std.proofs.Common.{◌≡◌, ◌≤◌, ◌++◌, length, refl, ap, arith, length-append, inr}
use Rattle.server_connection.{specs.Machine.core, proofs.TurnLemmas.refused_on}
use Rattle.httparse.{specs.Spans.span_bytes, proofs.RunLemmas.length-slice_range}
use Rattle.http_server.proofs.MachineLemmas.{holds, running_at, moved, busy, long_by_data}
use Rattle.server_connection.proofs.machine.Machine.take.Goals as goal

pub returns-then-piece-saturating_sub-clause-puts : goal.returns-then-piece-saturating_sub-clause-puts
returns-then-piece-saturating_sub-clause-puts c = refused_on refl c.refuse.ensures.puts

pub returns-in-Err-clause-puts : goal.returns-in-Err-clause-puts
returns-in-Err-clause-puts c = inr (inr (c.abort.ensures.state, c.abort.ensures.output))

pub returns-then-piece-saturating_sub-clause-reaches : goal.returns-then-piece-saturating_sub-clause-reaches
returns-then-piece-saturating_sub-clause-reaches c = λ p x.
    let k = core c.args.self.now p in
    let s = c.args.piece in
    let len = length-slice_range k.history.unread s.start s.end (omega arith) c.requires.1 in
    let long = long_by_data x.placed _ (omega (arith, length-append k.body (span_bytes k.history.unread s))) in
    c.refuse.ensures.reaches p (x.base, (x.calls, long), busy k.config k.history x.placed.accepts)

pub returns-in-Ok-clause-reaches : goal.returns-in-Ok-clause-reaches
returns-in-Ok-clause-reaches c = λ p x.
    let k = core c.args.self.now p in
    let s = c.args.piece in
    let len = length-slice_range k.history.unread s.start s.end (omega arith) c.requires.1 in
    let body : c.extend_from_slice.new.self.items ≡ k.body ++ span_bytes k.history.unread s =
    rw c.as_slice.ensures at c.in-Ok.ensures.ok in
    let fits : length c.extend_from_slice.new.self.items ≤ k.config.max_body_len =
    omega (arith, x.fits, ap length body, length-append k.body (span_bytes k.history.unread s)) in
    holds _ (running_at _ (moved x.base _ _ _ _ _) _ x.calls x.head (rw (body, c.advance.ensures.items) x.placed, fits))
