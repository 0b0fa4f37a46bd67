use Rattle.{std.proofs.Common.arith, decide_negotiation.proofs.ElementLemmas.own_parameters-length}
use Rattle.decide_negotiation.proofs.element.parameter_count.Goals as goal

pub overflow_add-count : goal.overflow_add-count
overflow_add-count c =
    let most = own_parameters-length c.args.text.now in omega arith
