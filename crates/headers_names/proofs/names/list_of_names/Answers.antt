use Rattle.headers_names.{specs.ListItem.name_of, proofs.RoundTripLemmas.Lists-bytes}
use Rattle.headers_names.proofs.names.list_of_names.Goals as goal

pub returns : goal.returns
returns g c = Lists-bytes name_of g.I.Iterator.next_gives c.args.names c.list_of.result c.list_of.ensures
