use Rattle.{std.proofs.Common.◌≡◌, headers_syntax.specs.AsciiCase.same_name, rfc_fields.specs.Values.octets_left}
use Rattle.{rfc_fields.specs.Values.value_parts, decide_negotiation.specs.Parameters.is_same_value}
use Rattle.decide_negotiation.proofs.parameter.is_same_value.Given as goal

-- the octets are the same exactly if what is left of them is
abbrev pub invariant-loop-octet : goal.invariant-loop-octet
invariant-loop-octet l = is_same_value (value_parts l.fn.one) (value_parts l.fn.other)
    ≡ same_name (octets_left l.octet-iterator) (octets_left l.others)
