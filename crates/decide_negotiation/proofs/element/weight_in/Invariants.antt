use Rattle.{std.proofs.Common.◌≡◌, rfc_fields.specs.Members.members_left}
use Rattle.decide_negotiation.{specs.Elements.{parameters_of, weight_in}, proofs.ParameterLemmas.read}
use Rattle.decide_negotiation.proofs.element.weight_in.Given as goal

abbrev pub invariant-loop-member : goal.invariant-loop-member
invariant-loop-member l = weight_in (parameters_of l.text) ≡ weight_in (read (members_left l.member-iterator))
