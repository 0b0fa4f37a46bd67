use Rattle.server_files.proofs.ListingLemmas.{page_links}
use Rattle.server_files.proofs.laws.listing_links_to_each_name.Goals as goal

pub returns : goal.returns
returns c = page_links
