use Rattle.std.{proofs.Common.{◌≡◌, length}, specs.List.list_any}
use Rattle.rfc_fields.{specs.Members.field_left, specs.Directives.is_same_token}
use Rattle.rfc_fields.proofs.field.contains_token.Given as goal

abbrev pub invariant-loop-member : goal.invariant-loop-member
invariant-loop-member l = list_any (is_same_token l.token) (field_left l.initial.members)
    ≡ list_any (is_same_token l.token) (field_left l.members)

abbrev pub decreases-loop-member : goal.decreases-loop-member
decreases-loop-member l = length (field_left l.members)
