use Rattle.{std.proofs.Common.{sym, ◌∙◌}, rfc_fields.proofs.ScanLemmas.{end_from-next, end_from-here, end_from-end}}
use Rattle.rfc_fields.proofs.scan.end_from.Goals as goal

pub returns-then-is_cut : goal.returns-then-is_cut
returns-then-is_cut c =
    sym (end_from-here c.args.separator c.args.pairs c.loop-place.state c.loop-place.place c.args.text.now _
    c.loop-place-test.true (sym c.is_cut.ensures ∙ c.if-is_cut.true) c.loop-place.invariant)

pub loop-place-preserved : goal.loop-place-preserved
loop-place-preserved c = end_from-next _ _ _ _ _ _ _ c.loop-place-test.true (sym c.is_cut.ensures ∙ c.if-is_cut.false)
    c.after-state.ensures c.loop-place.invariant

pub returns : goal.returns
returns c = c.last_end.ensures ∙ sym (end_from-end _ _ _ _ _ _ c.loop-place-test.false c.loop-place.invariant)
