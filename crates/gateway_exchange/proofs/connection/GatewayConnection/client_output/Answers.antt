use Rattle.gateway_exchange.proofs.HistoryLemmas.{run}
use Rattle.gateway_exchange.proofs.connection.GatewayConnection.client_output.Goals as goal

pub returns-clause-theorem : goal.returns-clause-theorem
returns-clause-theorem c = λ limits past reached.
    let r = run reached in
    record {
      client = r.client;
      reached = r.reached;
      received = r.received;
      sent = r.sent;
      exchanged = c.output.ensures.theorem limits r.client r.reached;
      served = r.served;
      origin = r.origin;
    }
