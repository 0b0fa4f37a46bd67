use Rattle.std.proofs.Common.{◌≡◌, None, Some, sym, ◌∙◌}
use Rattle.headers_syntax.{specs.Number.number, proofs.OfLinesLemmas.{OfLines-stopped, OfLinesSoFar-more}}
use Rattle.headers_values.proofs.ContentLengthLemmas.{NumberSoFar, no_number, other_number, first_number, same_number}
use Rattle.headers_values.proofs.content_length.ContentLengthHeader.decode.Goals as goal
use Rattle.headers_values.proofs.content_length.ContentLengthHeader.decode.Goals.{in-None}
use Rattle.headers_values.proofs.content_length.ContentLengthHeader.decode.Goals.{in-Some-length+else-before-next}

pub returns-in_default-read_number-clause-value : goal.returns-in_default-read_number-clause-value
returns-in_default-read_number-clause-value g c =
    let none : number (g.I.Item.AsHeaderValue.shown c.in-Some.item).bytes ≡ None =
    rw (← c.as_header_value.ensures) (sym c.read_number.ensures ∙ c.in_default-read_number.is) in
    OfLines-stopped g.I.Item.AsHeaderValue.shown g.I.Iterator.next_gives _ _ _ _ (NumberSoFar c.loop-item.length) _
    c.loop-item.invariant.so_far c.in-Some.ensures.steps (λ lines rest _. no_number _ none lines rest)

pub returns-then-before-next-clause-value : goal.returns-then-before-next-clause-value
returns-then-before-next-clause-value g c =
    let some : number (g.I.Item.AsHeaderValue.shown c.in-Some.item).bytes ≡ Some c.in-Some-read_number.next =
    rw (← c.as_header_value.ensures) (sym c.read_number.ensures ∙ c.in-Some-read_number.is) in
    OfLines-stopped g.I.Item.AsHeaderValue.shown g.I.Iterator.next_gives _ _ _ _
    (NumberSoFar (Some c.in-Some-length.before)) _
    (rw c.in-Some-length.is at c.loop-item.invariant.so_far) c.in-Some.ensures.steps
    (other_number c.in-Some-length.before c.in-Some-read_number.next _ some c.if-before-next.true)

pub loop-item-preserved : goal.loop-item-preserved
loop-item-preserved g c =
    let some : number (g.I.Item.AsHeaderValue.shown c.in-Some.item).bytes ≡ Some c.in-Some-read_number.next =
    rw (← c.as_header_value.ensures) (sym c.read_number.ensures ∙ c.in-Some-read_number.is) in
    let progress = c.in-Some.ensures.goes.on c.loop-item.invariant.finite in
    record {
      can = progress.0;
      finite = progress.1;
      so_far =
          elim c.match-length.branch [
            | in-None w ↦
                rw w.length-is
                (OfLinesSoFar-more g.I.Item.AsHeaderValue.shown g.I.Iterator.next_gives _ _ _ _ (NumberSoFar None) _
                (rw w.in-None.is at c.loop-item.invariant.so_far) c.in-Some.ensures.steps (first_number _ _ some))
            | in-Some-length+else-before-next w ↦
                rw (w.length-is, w.if-before-next.false)
                (OfLinesSoFar-more g.I.Item.AsHeaderValue.shown g.I.Iterator.next_gives _ _ _ _
                (NumberSoFar (Some c.in-Some-read_number.next)) _
                (rw (w.in-Some-length.is, w.if-before-next.false) at c.loop-item.invariant.so_far)
                c.in-Some.ensures.steps (same_number _ _ some))
          ];
    }
