use Rattle.c_resource.proofs.SettledLemmas.{set_all-settled, settled-once}
use Rattle.c_resource.proofs.laws.settled_fields_set_the_same.Goals as goal

pub returns : goal.returns
returns c = record { same = set_all-settled; once = settled-once }
