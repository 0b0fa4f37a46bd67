use Rattle.{std.{proofs.Common.{◌≡◌, length}, specs.List.list_all}, rfc_fields.specs.Members.{is_whole, members_left}}
use Rattle.rfc_fields.proofs.members.is_well_formed.Given as goal

abbrev pub invariant-loop-member : goal.invariant-loop-member
invariant-loop-member l =
    list_all is_whole (members_left l.initial.members) ≡ list_all is_whole (members_left l.members)

abbrev pub decreases-loop-member : goal.decreases-loop-member
decreases-loop-member l = length (members_left l.members)
