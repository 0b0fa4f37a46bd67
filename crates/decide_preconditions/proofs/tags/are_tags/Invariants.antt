use Rattle.{std.{proofs.Common.{◌≡◌, length}, specs.List.list_all}, headers.specs.Lines.lines_of}
use Rattle.{rfc_fields.specs.Members.field_left, decide_preconditions.specs.Tags.{are_tags, is_tag_member}}
use Rattle.decide_preconditions.proofs.tags.are_tags.Given as goal

abbrev pub invariant-loop-member : goal.invariant-loop-member
invariant-loop-member l = list_all is_tag_member (field_left l.members) ≡ are_tags (lines_of l.field)

abbrev pub decreases-loop-member : goal.decreases-loop-member
decreases-loop-member l = length (field_left l.members)
