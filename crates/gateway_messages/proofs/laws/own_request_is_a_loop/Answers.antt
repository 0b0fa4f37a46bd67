use Rattle.gateway_messages.proofs.LoopLemmas.{own_loop}
use Rattle.gateway_messages.proofs.laws.own_request_is_a_loop.Goals as goal

pub returns : goal.returns
returns c gateway request sent added token p = own_loop gateway _ request.fields _ added token p.fields
