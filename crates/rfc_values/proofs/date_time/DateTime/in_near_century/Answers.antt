use Rattle.rfc_values.{proofs.YearLemmas.{near_here, near_later, near_none}, specs.Reader.in_near_century}
use Rattle.std.proofs.Common.{ap, arith, sym, ◌+◌, ◌-◌, ◌∙◌, ◌≡◌}
use Rattle.rfc_values.proofs.date_time.DateTime.in_near_century.Goals as goal

pub returns-then-is_near-clause-value : goal.returns-then-is_near-clause-value
returns-then-is_near-clause-value c = grind (arith, near_here)

pub loop-century-preserved : goal.loop-century-preserved
loop-century-preserved c =
    let far = sym c.is_near.ensures ∙ c.if-is_near.false in
    let one_less : 100 - c.loop-century.century - 1 ≡ 100 - (c.loop-century.century + 1) = omega arith in
    c.loop-century.invariant ∙ near_later _ _ _ _ _ (omega arith) c.in_year-date.ensures far
    ∙ ap (λ n. in_near_century c.args.now c.args.self n (c.loop-century.century + 1)) one_less

pub returns-clause-value : goal.returns-clause-value
returns-clause-value c = sym (c.loop-century.invariant ∙ near_none _ _ _ _ (omega arith))
