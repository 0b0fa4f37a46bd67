use Rattle.gateway_messages.proofs.OutcomeLemmas.{final_unforwarded, unaccepted}
use Rattle.gateway_messages.proofs.ResponseLemmas as response_lemmas
use Rattle.gateway_messages.proofs.laws.rejected_messages_are_not_forwarded.Goals as goal

pub returns-clause-requests : goal.returns-clause-requests
returns-clause-requests c gateway request rejection sent r p =
    unaccepted gateway request sent.framing _ rejection p.accepted p.hops r

pub returns-clause-answered : goal.returns-clause-answered
returns-clause-answered c gateway request framing sent f p = final_unforwarded request sent.hops f.hops p.hops

pub returns-clause-responses : goal.returns-clause-responses
returns-clause-responses c gateway date response rejection sent r p =
    response_lemmas.unaccepted gateway response p.stated rejection p.accepted r
