use Rattle.{std.proofs.Common.{◌∙◌, ap}, decide_preconditions.specs.NumeralOrder.{is_ordered, without_zeros}}
use Rattle.decide_preconditions.proofs.NumeralLemmas.{order_of_numerals}
use Rattle.decide_preconditions.proofs.range_set.is_at_most.Goals as goal

pub returns : goal.returns
returns c = c.is_ordered.ensures
    ∙ ap (λ ds. is_ordered ds c.without_zeros-2.result.now) c.without_zeros.ensures
    ∙ ap (λ es. is_ordered (without_zeros c.args.first.now) es) c.without_zeros-2.ensures
    ∙ order_of_numerals c.args.first.now c.args.last.now c.requires.first c.requires.last
