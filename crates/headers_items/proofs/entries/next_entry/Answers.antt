use Rattle.std.proofs.Common.{◌≡◌, false, not, sym, ◌∙◌, ap}
use Rattle.headers_items.{specs.ItemsState.is_entry, proofs.PassingLemmas.{PassesUnwanted-none, PassesUnwanted-more}}
use Rattle.headers_items.proofs.entries.next_entry.Goals as goal

pub loop-item-init : goal.loop-item-init
loop-item-init c = PassesUnwanted-none is_entry c.args.items.now

pub loop-item-preserved : goal.loop-item-preserved
loop-item-preserved c =
    let none : is_entry c.in-Some.item.now ≡ false = ap not (sym c.is_empty.ensures ∙ c.if-not-is_empty.false) in
    PassesUnwanted-more is_entry c.args.items.now c.loop-item.items c.next.new.self c.in-Some.item
    c.loop-item.invariant c.in-Some.ensures.scanned c.in-Some.ensures.steps c.in-Some.ensures.follows none
