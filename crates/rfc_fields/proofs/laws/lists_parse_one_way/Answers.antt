use Rattle.rfc_fields.proofs.GrammarLemmas.{parses_one_way as law}
use Rattle.rfc_fields.proofs.laws.lists_parse_one_way.Goals as goal

pub returns : goal.returns
returns c = law
