use Rattle.gateway_messages.proofs.PairLemmas.{one_gateway}
use Rattle.gateway_messages.proofs.laws.gateways_in_a_row_are_one.Goals as goal

pub returns-clause-requests : goal.returns-clause-requests
returns-clause-requests c first second request next sent last p r q =
    one_gateway first second _ _ request.fields _ next.fields _ p.fields r.fields q.fields

pub returns-clause-responses : goal.returns-clause-responses
returns-clause-responses c first second date later response next sent last p r q =
    one_gateway first second _ _ response.fields _ next.fields _ p.fields r q.fields
