use Rattle.{std.proofs.Common.{Err, ap, refl, subst}, cache_rules.specs.Fields.IsTooSmallFor}
use Rattle.cache_rules.proofs.{FresheningLemmas.{aging_first, set_renewing}, FullLemmas.passed_full}
use Rattle.cache_rules.proofs.freshening.updated.Goals as goal

pub returns-clause-renewed : goal.returns-clause-renewed
returns-clause-renewed c = record {
  method = refl;
  request = refl;
  status = refl;
  content = refl;
  requested = refl;
  received = refl;
  fields = set_renewing _ _ _ _ _ (aging_first _ _ _ _ c.in_ok-all.ensures c.in_ok-append.ensures.items)
      c.in_ok-set_fields.ensures.ok;
}

pub returns-in_err-set_fields-clause-full : goal.returns-in_err-set_fields-clause-full
returns-in_err-set_fields-clause-full c = λ full. subst (IsTooSmallFor c.args.stored.response)
    (aging_first _ _ _ _ c.in_ok-all.ensures c.in_ok-append.ensures.items)
    (c.in_err-set_fields.ensures.full (ap Err (passed_full _ _ c.from_residual-in_err-set_fields.ensures.1 full)))
