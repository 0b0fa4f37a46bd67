use Rattle.std.{proofs.Common.{◌++◌, List, ℕ, ap, ◌∙◌}, specs.Prelude.codes}
use Rattle.server_files.{specs.Listings.{link, shown}, proofs.ListingLemmas.pushed}
use Rattle.server_files.proofs.listing.push_item.Goals as goal

pub returns : goal.returns
returns c = pushed c.args.text.now.items (codes "<li><a href=\"") (link c.args.name.now) (codes "\">")
    (shown c.args.name.now) (codes "</a>\n") c.extend_from_slice.new.self.items c.push_link.new.text.items
    c.extend_from_slice-2.new.self.items c.push_shown.new.text.items c.extend_from_slice-3.new.self.items
    c.in_ok-extend_from_slice.ensures.items (c.in_ok-push_link.ensures
    ∙ ap (λ (n : List ℕ). c.extend_from_slice.new.self.items ++ link n) c.as_bytes.ensures.value)
    c.in_ok-extend_from_slice-2.ensures.items (c.in_ok-push_shown.ensures
    ∙ ap (λ (n : List ℕ). c.extend_from_slice-2.new.self.items ++ shown n) c.as_bytes-2.ensures.value)
    c.in_ok-extend_from_slice-3.ensures.items
