use Rattle.{std.proofs.Common.{◌≡◌, refl, sym, subst}, rfc_fields.specs.Laws.ParsesOneWay}
use Rattle.gateway_messages.specs.{Chain.IsReceivedAs, Framing.States, declared.gateway.Gateway.Gateway}
use Rattle.gateway_messages.specs.declared.{protocol.Protocol.Protocol, request.ForwardedRequest.ForwardedRequest}
use Rattle.gateway_messages.specs.{FieldLines.{fields_of, lines_under}, Requests.{IsForwarded, Request, message_of}}
use Rattle.gateway_messages.proofs.{OneLemmas.one_framing, RecipientLemmas.fitting, StatedLemmas.received_alike}
use Rattle.gateway_messages.proofs.StatedLemmas.{states_again}
use Rattle.gateway_messages.proofs.laws.next_gateway_frames_alike.Goals as goal

stated : ParsesOneWay → (gateway : Gateway) (request next : Request) (sent : ForwardedRequest)
    → IsForwarded gateway request sent → IsReceivedAs request.method sent next
    → next.protocol ≡ Protocol.Http11 → States next.protocol next.fields sent.framing
stated parses gateway request next sent p r e =
    let again : States Protocol.Http11 (lines_under (fields_of sent.fields.items)) sent.framing
    = states_again parses gateway (message_of request sent.framing sent.hops) request.fields _ sent.framing refl
    p.fields (fitting request.protocol request.fields sent.framing p.accepted.states) in
    let P : Protocol → Type 0 = λ protocol. States protocol next.fields sent.framing in
    subst P (sym e) (received_alike Protocol.Http11 next.fields _ sent.framing r.fields again)

pub returns-clause-states : goal.returns-clause-states
returns-clause-states c = stated c.lists_parse_one_way.ensures

pub returns-clause-forwards : goal.returns-clause-forwards
returns-clause-forwards c first second request next sent last p r e q = one_framing next.protocol next.fields
    last.framing sent.framing q.accepted.states (stated c.lists_parse_one_way.ensures first request next sent p r e)
