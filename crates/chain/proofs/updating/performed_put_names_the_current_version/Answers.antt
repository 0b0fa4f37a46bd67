use Rattle.chain.proofs.NameLemmas.{performed}
use Rattle.chain.proofs.updating.performed_put_names_the_current_version.Goals as goal

pub returns : goal.returns
returns c = performed c.performed_method_replaces_what_it_names.ensures
