use Rattle.std.{proofs.Common.{◌++◌, ap, map, ◌∙◌}, specs.Prelude.{codes, flat_map, string_bytes}}
use Rattle.server_files.{specs.Listings.{item, shown}, specs.Pages.page_with, proofs.ListingLemmas.page_made}
use Rattle.server_files.proofs.listing.listing_page.Goals as goal

pub returns : goal.returns
returns c = page_made (page_with (codes "Index of /" ++ shown c.args.folder.now)) (codes "<ul>\n") (item (codes "../"))
    (flat_map item (map string_bytes c.args.names.now)) (codes "</ul>\n") c.in_ok-page.page.items
    c.extend_from_slice.new.self.items c.push_item.new.text.items c.push_items.new.text.items
    c.extend_from_slice-2.new.self.items
    (c.in_ok-page.ensures ∙ ap page_with (c.deref.ensures.value ∙ c.in_ok-title.ensures))
    c.in_ok-extend_from_slice.ensures.items c.in_ok-push_item.ensures c.in_ok-push_items.ensures
    c.in_ok-extend_from_slice-2.ensures.items
