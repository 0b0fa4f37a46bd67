use Rattle.std.proofs.Common.{◌++◌, List, ℕ, ap, ◌∙◌}
use Rattle.server_files.{specs.Listings.item, proofs.ListingLemmas.items_more}
use Rattle.server_files.proofs.listing.push_items.Goals as goal

pub loop-name-preserved : goal.loop-name-preserved
loop-name-preserved c = items_more c.args.names.now c.loop-name.name-index c.name-item.result c.args.text.now.items
    c.loop-name.text.items c.push_item.new.text.items c.loop-name-test.true c.name-item.is c.loop-name.invariant
    (c.in_ok-push_item.ensures
    ∙ ap (λ (n : List ℕ). c.loop-name.text.items ++ item n) c.as_str.ensures.value)
