use Rattle.{std.proofs.Common.{Err, ap}, cache_rules.proofs.{FresheningLemmas.freshened_by, FullLemmas.passed_full}}
use Rattle.cache_rules.proofs.freshening.freshen.Goals as goal

pub returns-then-is_reusable-clause-freshened : goal.returns-then-is_reusable-clause-freshened
returns-then-is_reusable-clause-freshened c =
    let told = rw c.in-Some.is at c.in_ok-fields.ensures.fields in (
      told.0,
      freshened_by _ _ _ _ _ c.keys_len-names.ensures.valid told.1 c.in_ok-fresh.ensures.renewed,
      (rw c.if-not-others.false at c.is_for_others-others.ensures, rw c.if-is_reusable.true at c.is_reusable.ensures),
    )

pub returns-else-is_reusable-clause-freshened : goal.returns-else-is_reusable-clause-freshened
returns-else-is_reusable-clause-freshened c =
    let told = rw c.in-Some.is at c.in_ok-fields.ensures.fields in (
      told.0,
      freshened_by _ _ _ _ _ c.keys_len-names.ensures.valid told.1 c.in_ok-fresh.ensures.renewed,
      λ may. (rw c.if-is_reusable.false at c.is_reusable.ensures) may.1,
    )

pub returns-then-not-others-clause-freshened : goal.returns-then-not-others-clause-freshened
returns-then-not-others-clause-freshened c =
    let told = rw c.in-Some.is at c.in_ok-fields.ensures.fields in (
      told.0,
      freshened_by _ _ _ _ _ c.keys_len-names.ensures.valid told.1 c.in_ok-fresh.ensures.renewed,
      λ may. (rw c.if-not-others.true at c.is_for_others-others.ensures) may.0,
    )

pub returns-in_err-fresh-clause-full : goal.returns-in_err-fresh-clause-full
returns-in_err-fresh-clause-full c = λ full.
    let told = rw c.in-Some.is at c.in_ok-fields.ensures.fields in
    rw told.1 at (c.in_err-fresh.ensures.full (ap Err (passed_full _ _ c.from_residual-in_err-fresh.ensures.1 full)))
