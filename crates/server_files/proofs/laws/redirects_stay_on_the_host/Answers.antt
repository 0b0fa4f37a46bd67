use Rattle.server_files.proofs.RedirectLemmas.{stays_on_host}
use Rattle.server_files.proofs.laws.redirects_stay_on_the_host.Goals as goal

pub returns : goal.returns
returns c = stays_on_host
