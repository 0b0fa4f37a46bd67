use Rattle.{std.{proofs.Common.◌≡◌, specs.List.list_any}, rfc_fields.specs.Members.members_left}
use Rattle.decide_negotiation.specs.{Elements.parameters_of, Parameters.{is_same_parameter, parameter_parts}}
use Rattle.decide_negotiation.proofs.ParameterLemmas.{read}
use Rattle.decide_negotiation.proofs.element.has_parameter.Given as goal

abbrev pub invariant-loop-member : goal.invariant-loop-member
invariant-loop-member l = list_any (is_same_parameter (parameter_parts l.wanted)) (parameters_of l.text)
    ≡ list_any (is_same_parameter (parameter_parts l.wanted)) (read (members_left l.member-iterator))
