use Rattle.{std.proofs.Common.{◌≡◌, ◌++◌}, rfc_fields.specs.Values.octets_left}
use Rattle.rfc_lists.proofs.named.first_octets.Given as goal

abbrev pub invariant-loop-octet : goal.invariant-loop-octet
invariant-loop-octet l = octets_left l.initial.octet-iterator ≡ l.octets.items ++ octets_left l.octet-iterator
