use Rattle.{std.{proofs.Common.{◌≡◌, length}, specs.List.list_all}, rfc_fields.specs.Members.field_left}
use Rattle.gateway_messages.specs.Framing.{writes_length}
use Rattle.gateway_messages.proofs.framing.all_write.Given as goal

abbrev pub invariant-loop-member : goal.invariant-loop-member
invariant-loop-member l = list_all
    (writes_length l.length) (field_left l.initial.members) ≡ list_all (writes_length l.length) (field_left l.members)

abbrev pub decreases-loop-member : goal.decreases-loop-member
decreases-loop-member l = length (field_left l.members)
