use Rattle.{std.proofs.Common.{◌≡◌, ◌+◌, length, filter, take, map}, test_rows.specs.Row.is_row_line}
use Rattle.test_rows.proofs.replay.replay_text.Given as goal

abbrev pub invariant-loop-index : goal.invariant-loop-index
invariant-loop-index g l = l.tally.rows
    ≡ l.initial.tally.rows + length (filter is_row_line (take l.index (map (λ line. line.now) l.line-items)))
