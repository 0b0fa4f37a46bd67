use Rattle.std.proofs.Common.{◌≡◌, ◌≤◌, length, IfSome}
use Rattle.rfc_fields.{specs.Values.octets_left, proofs.NumberLemmas.number_from}
use Rattle.rfc_fields.proofs.numbers.number_within.Given as goal

abbrev pub invariant-loop-octet : goal.invariant-loop-octet
invariant-loop-octet l = record {
  read : number_from l.greatest l.initial.number (octets_left l.initial.octets)
      ≡ number_from l.greatest l.number (octets_left l.octets);
  within : IfSome l.number (λ n. n ≤ l.greatest);
}

abbrev pub decreases-loop-octet : goal.decreases-loop-octet
decreases-loop-octet l = length (octets_left l.octets)
