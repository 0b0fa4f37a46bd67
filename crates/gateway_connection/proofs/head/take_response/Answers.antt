use Rattle.{std.proofs.lemmas.Result.err_from_is_err_and, gateway_connection.proofs.FieldLemmas.{fails_as, fault_of}}
use Rattle.gateway_connection.proofs.head.take_response.Goals as goal

pub returns-in_err-fields-clause-reason : goal.returns-in_err-fields-clause-reason
returns-in_err-fields-clause-reason c = let r = c.from_residual-in_err-fields in
    let p = err_from_is_err_and r.result r.ensures.1 in
    fails_as r.result p.1 p.2 _ (fault_of _ _ c.in_err-fields.ensures.reason)
