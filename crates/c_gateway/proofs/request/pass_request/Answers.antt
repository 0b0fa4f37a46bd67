use Rattle.std.{proofs.Common.{◌≡◌, Err, inl, subst, sym}, proofs.lemmas.Result.err_from_is_err_and}
use Rattle.c_parts.specs.declared.status.Failure.TheVariants.{Memory}
use Rattle.c_gateway.{specs.Requests.PassesRequest, proofs.RequestLemmas.bytes_copied}
use Rattle.c_gateway.proofs.request.pass_request.Goals as goal

-- the gateway's name was copied
pub returns-in_err-step_of : goal.returns-in_err-step_of
returns-in_err-step_of c =
    let answer = c.from_residual-in_err-step_of in
    let error = err_from_is_err_and answer.result answer.ensures.1 in
    let is : answer.result ≡ Err Memory = cc (error.1, error.2) in
    subst (PassesRequest c.args.gateway.now c.args.hop.now c.args.request.now c.args.version c.args.authority.now)
    (sym is) (inl (inl c.in_ok-gateway.ensures.0.0))

pub returns : goal.returns
returns c =
    let method = c.in_ok-method.ensures in
    let step = rw (method.1, bytes_copied c.as_ref.result c.in_ok-authority.authority c.as_ref.ensures.value) at
    c.in_ok-step_of.ensures in
    record {
      gateway = c.in_ok-gateway.gateway;
      is_gateway = c.in_ok-gateway.ensures;
      nodes = c.in_ok-nodes.nodes;
      are_nodes = c.in_ok-nodes.ensures;
      server = c.in_ok-server.server;
      is_server = c.in_ok-server.ensures;
      protocol = c.in_ok-protocol.protocol;
      is_protocol = c.in_ok-protocol.ensures;
      is_method = method.0;
      target = c.in_ok-authority.authority;
      is_target = c.in_ok-authority.ensures;
      fields = c.in_ok-fields.fields;
      holds = c.in_ok-fields.ensures;
      outcome = step.outcome;
      is_outcome = step.is_outcome;
      is_shown = step.is_shown;
    }
