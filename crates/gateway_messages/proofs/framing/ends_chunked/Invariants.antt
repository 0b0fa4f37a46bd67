use Rattle.std.{proofs.Common.{◌≡◌, None, codes, true, length}, specs.{List.last_or, Option.option_map}}
use Rattle.{headers.specs.LineMap.lines_at, rfc_fields.specs.Members.{field_left, field_members, member_of}}
use Rattle.gateway_messages.proofs.framing.ends_chunked.Given as goal

abbrev pub invariant-loop-member : goal.invariant-loop-member
invariant-loop-member l = last_or (option_map member_of l.last) (field_left l.members)
    ≡ last_or None (field_members true (lines_at l.message (codes "transfer-encoding")))

abbrev pub decreases-loop-member : goal.decreases-loop-member
decreases-loop-member l = length (field_left l.members)
