use Rattle.std.{proofs.Common.{[], ◌∙◌, inl, inr, subst, sym}, specs.Io.KnownBytes.IsAtEnd}
use Rattle.server_connection.{specs.Connection.{IsSaid, IsTurned.by_read}, proofs.TurnLemmas.Appends-none}
use Rattle.server_connection.proofs.TurnLemmas.{Consumes-none, is_reached, moves_in, moves_steps, moves_then}
use Rattle.server_connection.proofs.TurnLemmas.{rests_open, stays_known, turned_drop, turns_by, turns_read}
use Rattle.server_connection.proofs.serve.turn.Goals as goal

pub returns-in-Request : goal.returns-in-Request
returns-in-Request g c = turns_by [] (Appends-none _ _ (stays_known (g.W.Write.contents c.args.writer.now)))
    (moves_then c.next.ensures.moves (moves_steps c.answer.ensures)) (c.answer.ensures.ended ∙ c.next.ensures.ended)

pub returns-in-Output : goal.returns-in-Output
returns-in-Output g c = turns_by c.send.ensures.0 c.send.ensures.1 (moves_then c.next.ensures.moves c.send.ensures.2)
    (c.send.ensures.3 ∙ c.next.ensures.ended)

pub returns-in_err-read_from-in-NeedsInput : goal.returns-in_err-read_from-in-NeedsInput
returns-in_err-read_from-in-NeedsInput g c =
    let wants = subst (IsSaid c.next.new.connection.machine) c.in-NeedsInput.is c.next.ensures.said in
    let failed = c.in_err-read_from-in-NeedsInput.ensures.err in
    turns_read [] c.flush.ensures.bytes (Consumes-none _ _ failed.2) c.next.ensures.moves (
    λ config first r s h y.
    let rests = c.next.ensures.rests c.in-NeedsInput.is config first r s (is_reached h.turned) in
    record {
      turned = by_read _ _ c.args.handler.now r s [] y (inl rests) (moves_in c.args.handler.now [] wants.1 failed.0);
      ends = λ e. absurd (cc (rests_open rests wants.0, failed.1, e));
    }
    )

pub returns-in_ok-read_from-in-NeedsInput : goal.returns-in_ok-read_from-in-NeedsInput
returns-in_ok-read_from-in-NeedsInput g c =
    let wants = subst (IsSaid c.next.new.connection.machine) c.in-NeedsInput.is c.next.ensures.said in
    let came = c.in_ok-read_from-in-NeedsInput.ensures.ok in
    turns_read came.0 c.flush.ensures.bytes came.2 c.next.ensures.moves (
    λ config first r s h y.
    let rests = c.next.ensures.rests c.in-NeedsInput.is config first r s (is_reached h.turned) in
    record {
      turned =
          by_read _ _ c.args.handler.now r s came.0 y (inl rests) (moves_in c.args.handler.now came.0 wants.1 came.1);
      ends = c.in_ok-read_from-in-NeedsInput.ensures.end (rests_open rests wants.0);
    }
    )

pub returns-in_ok-flush-in-Closed : goal.returns-in_ok-flush-in-Closed
returns-in_ok-flush-in-Closed g c =
    let wants = subst (IsSaid c.next.new.connection.machine) c.in-Closed.is c.next.ensures.said in
    let drops = c.drop_content.ensures.drops in
    turns_read drops.0 c.flush-in-Closed.ensures.bytes drops.2 c.next.ensures.moves (
    λ config first r s h y. record {
      turned = turned_drop drops.0 y wants.1 drops.1;
      ends = λ e. elim (c.drop_content.ensures.end e) [
        | inl same ↦ subst IsAtEnd (sym same.1) (h.ends (sym c.next.ensures.ended ∙ same.0))
        | inr none ↦ none
      ];
    }
    )

pub returns-in_err-flush-in-NeedsInput : goal.returns-in_err-flush-in-NeedsInput
returns-in_err-flush-in-NeedsInput g c =
    turns_by [] (Appends-none _ _ c.flush.ensures.bytes) c.next.ensures.moves c.next.ensures.ended

pub returns-in_err-flush-in-Closed : goal.returns-in_err-flush-in-Closed
returns-in_err-flush-in-Closed g c =
    turns_by [] (Appends-none _ _ c.flush-in-Closed.ensures.bytes) c.next.ensures.moves c.next.ensures.ended

pub returns-in_err-flush-in-Aborted : goal.returns-in_err-flush-in-Aborted
returns-in_err-flush-in-Aborted g c =
    turns_by [] (Appends-none _ _ c.flush-in-Aborted.ensures.bytes) c.next.ensures.moves c.next.ensures.ended

pub returns-in_ok-flush-in-Aborted : goal.returns-in_ok-flush-in-Aborted
returns-in_ok-flush-in-Aborted g c =
    turns_by [] (Appends-none _ _ c.flush-in-Aborted.ensures.bytes) c.next.ensures.moves c.next.ensures.ended
