use Rattle.rfc_fields.proofs.CommentLemmas.{behind-end, closed_comment, never-next, no_comment, within-next}
use Rattle.std.proofs.{Common.{arith, sym, ◌∙◌}, lemmas.{Grind.common_steps, List.take_rest}}
use Rattle.rfc_fields.proofs.comments.skip_comment.Goals as goal

pub returns-in-Closed : goal.returns-in-Closed
returns-in-Closed c = grind (arith, common_steps, take_rest, closed_comment)

pub returns-in-Never : goal.returns-in-Never
returns-in-Never c = no_comment _
    (never-next _ _ _ _ c.loop-place-test.true (sym c.after.ensures.value ∙ c.in-Never.is) c.loop-place.invariant.0)

pub loop-place-preserved : goal.loop-place-preserved
loop-place-preserved c = (
  within-next _ _ _ _ _ c.loop-place-test.true (sym c.after.ensures.value ∙ c.in-Within.is) c.loop-place.invariant.0,
  omega (arith, c.loop-place.invariant.1, c.after.ensures.one_more c.in-Within.next c.in-Within.is),
)

pub returns : goal.returns
returns c = no_comment c.args.text.now
    (behind-end c.loop-place.nesting c.loop-place.place c.args.text.now _ (omega (arith, c.loop-place-test.false))
    c.loop-place.invariant.0)
