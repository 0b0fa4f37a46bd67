use Rattle.{std.proofs.Common.{◌≡◌, ◌*◌, Some, refl, ◌∙◌, ap, option_map, arith}, rfc_fields.proofs.WeightLemmas.scaled}
use Rattle.rfc_fields.proofs.weights.thousandths.Goals as goal

pub returns-in-Some-number_within-clause-value : goal.returns-in-Some-number_within-clause-value
returns-in-Some-number_within-clause-value c = ap (option_map (λ n. n * 10)) c.in-Some-number_within.ensures.value
    ∙ scaled 99 1 10 c.args.digits.now c.in-2.is (omega arith) refl refl

pub returns-in-Some-number_within-2-clause-value : goal.returns-in-Some-number_within-2-clause-value
returns-in-Some-number_within-2-clause-value c =
    let same : c.in-Some-number_within-2.thousandths ≡ c.in-Some-number_within-2.thousandths * 1 = omega arith in
    ap (λ n. Some n) same ∙ ap (option_map (λ n. n * 1)) c.in-Some-number_within-2.ensures.value
    ∙ scaled 999 2 1 c.args.digits.now c.in-3.is (omega arith) refl refl
