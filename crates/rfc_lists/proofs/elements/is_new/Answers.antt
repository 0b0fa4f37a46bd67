use Rattle.rfc_lists.proofs.ElementLemmas.{new_unless}
use Rattle.rfc_lists.proofs.elements.is_new.Goals as goal

pub returns-then-names-lt100 : goal.returns-then-names-lt100
returns-then-names-lt100 c =
    new_unless c.args.names.now c.args.name.now c.has_name.result c.if-names-lt100.true c.has_name.ensures
