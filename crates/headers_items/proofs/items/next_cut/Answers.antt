use Rattle.{headers_items.proofs.ItemsLemmas.passes_quote, std.proofs.lemmas.Bool.not-false}
use Rattle.headers_items.proofs.items.next_cut.Goals as goal

pub loop-mark-preserved : goal.loop-mark-preserved
loop-mark-preserved c = passes_quote c.args.scan.now c.loop-mark.scan c.next_mark.new.self c.in-Some.mark
    c.requires.separator c.loop-mark.invariant c.in-Some.ensures.found (not-false _ c.if-not-mark.false)
    c.in-Some.ensures.place c.in-Some.ensures.bytes c.in-Some.ensures.separator
