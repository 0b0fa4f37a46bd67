use Rattle.gateway_hops.proofs.ElementLemmas.{value_means, value_parses}
use Rattle.gateway_hops.proofs.laws.values_read_back.Goals as goal

pub returns-clause-valid : goal.returns-clause-valid
returns-clause-valid c = value_parses

pub returns-clause-octets : goal.returns-clause-octets
returns-clause-octets c octets valid = value_means octets
