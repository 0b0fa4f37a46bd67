use Rattle.server_files.proofs.ListingLemmas.{shown_is_escaped}
use Rattle.server_files.proofs.laws.shown_text_is_escaped.Goals as goal

pub returns : goal.returns
returns c = shown_is_escaped
