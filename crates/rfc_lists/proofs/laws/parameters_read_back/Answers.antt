use Rattle.rfc_lists.proofs.ParameterLaws.{parameters_read_back}
use Rattle.rfc_lists.proofs.laws.parameters_read_back.Goals as goal

pub returns : goal.returns
returns c = parameters_read_back c.quoted_strings_parse.ensures
