use Rattle.{std.proofs.Common.{◌≡◌, ◌+◌, length}, rfc_fields.specs.Members.members_left}
use Rattle.decide_negotiation.{specs.Elements.own_parameters, proofs.ParameterLemmas.own}
use Rattle.decide_negotiation.proofs.element.parameter_count.Given as goal

abbrev pub invariant-loop-member : goal.invariant-loop-member
invariant-loop-member l = length (own_parameters l.text) ≡ l.count + length (own (members_left l.member-iterator))
