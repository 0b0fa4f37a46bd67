use Rattle.std.proofs.Common.{length, option_map}
use Rattle.rfc_fields.{specs.Members.field_left, specs.Directives.directive_parts, proofs.FieldLemmas.SoFar}
use Rattle.rfc_fields.proofs.field.find_directive.Given as goal

abbrev pub invariant-loop-member : goal.invariant-loop-member
invariant-loop-member l =
    SoFar l.name (field_left l.initial.members) (field_left l.members) (option_map directive_parts l.found)

abbrev pub decreases-loop-member : goal.decreases-loop-member
decreases-loop-member l = length (field_left l.members)
