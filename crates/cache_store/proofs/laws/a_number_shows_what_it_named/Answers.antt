use Rattle.cache_store.proofs.NumberLawLemmas.{run_shows}
use Rattle.cache_store.proofs.laws.a_number_shows_what_it_named.Goals as goal

pub returns : goal.returns
returns c = run_shows
