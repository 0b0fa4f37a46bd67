use Rattle.gateway_messages.proofs.HostLemmas.{has_host_of_test, has_host_test, rejected_exactly}
use Rattle.gateway_messages.proofs.laws.host_parses_by_the_grammar.Goals as goal

pub returns-clause-accepted : goal.returns-clause-accepted
returns-clause-accepted c protocol lines = (has_host_of_test protocol lines, has_host_test protocol lines)

pub returns-clause-rejected : goal.returns-clause-rejected
returns-clause-rejected c gateway request = rejected_exactly request.protocol _
