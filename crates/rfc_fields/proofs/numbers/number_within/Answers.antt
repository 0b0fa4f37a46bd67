use Rattle.std.proofs.Common.{None, sym, ◌∙◌, ap}
use Rattle.rfc_fields.proofs.NumberLemmas.{number_from, number_from-next, number_from-none, number_from-end}
use Rattle.rfc_fields.proofs.numbers.number_within.Goals as goal

pub loop-octet-preserved : goal.loop-octet-preserved
loop-octet-preserved c = record {
  read = number_from-next _ _ _ _ _ _ _ c.in-Some.ensures c.in-Some-with_digit.ensures.value
      c.loop-octet.invariant.read;
  within = c.in-Some-with_digit.ensures.within;
}

pub returns-in-None-clause-value : goal.returns-in-None-clause-value
returns-in-None-clause-value c =
    sym (number_from-next _ _ None _ _ _ _ c.in-Some.ensures c.in-None.ensures.value c.loop-octet.invariant.read) ∙ ap
    (number_from _ None) c.octets-octets.ensures ∙ number_from-none _ _

pub returns-clause-value : goal.returns-clause-value
returns-clause-value c = sym (number_from-end _ _ _ _ c.in_default.ensures.0 c.loop-octet.invariant.read) ∙ ap
    (number_from _ None) c.octets-octets.ensures ∙ number_from-none _ _
