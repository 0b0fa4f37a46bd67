use Rattle.std.{proofs.Common.{◌≡◌, length}, specs.List.list_all}
use Rattle.rfc_fields.{specs.Members.field_left, specs.Directives.is_token_member}
use Rattle.rfc_fields.proofs.field.are_tokens.Given as goal

abbrev pub invariant-loop-member : goal.invariant-loop-member
invariant-loop-member l =
    list_all is_token_member (field_left l.initial.members) ≡ list_all is_token_member (field_left l.members)

abbrev pub decreases-loop-member : goal.decreases-loop-member
decreases-loop-member l = length (field_left l.members)
