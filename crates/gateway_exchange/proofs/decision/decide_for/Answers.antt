use Rattle.std.proofs.Common.{rules}
use Rattle.gateway_exchange.proofs.decision.decide_for.Goals as goal

pub returns-in_ok-outgoing_of-in-Send : goal.returns-in_ok-outgoing_of-in-Send
returns-in_ok-outgoing_of-in-Send c = record {
  opens = c.in_ok-opens.opens;
  handshake = c.in_ok-opens.ensures;
  sent = c.in-Send.sent;
  sends = search rules;
  outgoing_is = c.in_ok-outgoing_of-in-Send.ensures;
}
