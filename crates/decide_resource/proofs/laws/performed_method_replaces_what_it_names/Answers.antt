use Rattle.decide_resource.proofs.GuardLemmas.{replaces_named}
use Rattle.decide_resource.proofs.laws.performed_method_replaces_what_it_names.Goals as goal

pub returns : goal.returns
returns c = replaces_named
