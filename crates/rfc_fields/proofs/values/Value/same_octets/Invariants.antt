use Rattle.{std.proofs.Common.{◌≡◌, ◌↔◌}, rfc_fields.specs.Values.{octets_left, octets_of, value_parts}}
use Rattle.rfc_fields.proofs.values.Value.same_octets.Given as goal

-- the octets are equal exactly if what is left of them is
abbrev pub invariant-loop-octet : goal.invariant-loop-octet
invariant-loop-octet l = (octets_of (value_parts l.fn.self) ≡ octets_of (value_parts l.fn.other)) ↔
    (octets_left l.octet-iterator ≡ octets_left l.others)
