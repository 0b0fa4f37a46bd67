use Rattle.c_gateway.proofs.response.pass_response.Goals as goal

pub returns : goal.returns
returns c =
    let status = c.in_ok-status.ensures in
    let method = c.in_ok-method.ensures in
    let date = c.in_ok-date.ensures in
    let step = rw (status.1, method.1, date.1) at c.in_ok-step_of.ensures in
    record {
      gateway = c.in_ok-gateway.gateway;
      is_gateway = c.in_ok-gateway.ensures;
      is_status = rw status.1 at status;
      protocol = c.in_ok-protocol.protocol;
      is_protocol = c.in_ok-protocol.ensures;
      is_method = method.0;
      client = c.in_ok-client.client;
      is_client = c.in_ok-client.ensures;
      is_date = rw date.1 at date;
      fields = c.in_ok-fields.fields;
      holds = c.in_ok-fields.ensures;
      outcome = step.outcome;
      is_outcome = step.is_outcome;
      is_shown = step.is_shown;
    }
