use Rattle.std.proofs.Common.{◌≡◌, ℕ, ◌+◌, ◌≤◌, cond, length, filter, map, sym, subst, ◌∙◌, ap, arith, IfOk}
use Rattle.std.{proofs.lemmas.List.{take_all, length-map}, proofs.lemmas.Iterator.Consumers.map_from_collect}
use Rattle.std.{proofs.lemmas.Iterator.Splits.YieldsList-from_lines, specs.Str.Lines.lines, specs.Vec.vec_items}
use Rattle.test_rows.{specs.Row.is_row_line, proofs.RowCounts.length-filter-map_more}
use Rattle.test_rows.proofs.replay.replay_text.Goals as goal
use Rattle.test_rows.proofs.replay.replay_text.Goals.{then-is_row+in_ok-replay_line, else-is_row}

pub loop-index-preserved : goal.loop-index-preserved
loop-index-preserved g c =
    let more = length-filter-map_more is_row_line (λ line. line.now) c.deref-line-items.result.now c.loop-index.index _
    c.is_row.result (omega (arith, c.loop-index-test.true)) c.is_row.ensures in
    elim c.if-is_row.branch [
      | then-is_row+in_ok-replay_line w ↦
          omega (
            arith,
            ap (λ t. t.rows) w.tally-is,
            w.in_ok-replay_line.ensures.rows,
            c.loop-index.invariant,
            more,
            ap {B = ℕ} (λ b. cond b 1 0) w.if-is_row.true,
          )
      | else-is_row w ↦
          omega (
            arith,
            ap (λ t. t.rows) w.tally-is,
            c.loop-index.invariant,
            more,
            ap {B = ℕ} (λ b. cond b 1 0) w.if-is_row.false,
          )
    ]

pub returns : goal.returns
returns g c =
    let found : map (λ line. line.now) c.in_ok-all.all.items ≡ lines c.args.text.now =
    subst (λ r. IfOk r (λ w. map (λ line. line.now) (vec_items w) ≡ lines c.args.text.now)) c.in_ok-all.was
    (map_from_collect c.collect.result c.collect.ensures.ran
    (YieldsList-from_lines c.args.text.now c.lines.ensures.rest)) in
    let held : map (λ line. line.now) c.deref-line-items.result.now ≡ lines c.args.text.now =
    ap (map (λ line. line.now)) c.deref-line-items.ensures.value ∙ found in
    let whole = take_all c.loop-index.index (map (λ line. line.now) c.deref-line-items.result.now)
    (subst (λ n. n ≤ c.loop-index.index) (sym (length-map c.deref-line-items.result.now (λ line. line.now)))
    c.loop-index-test.false) in
    c.loop-index.invariant ∙ ap (λ ls. c.args.tally.now.rows + length (filter is_row_line ls)) (whole ∙ held)
