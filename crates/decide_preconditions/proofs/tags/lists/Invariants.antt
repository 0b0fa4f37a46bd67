use Rattle.{std.{proofs.Common.{◌≡◌, length, option_copied}, specs.List.list_any}, headers.specs.Lines.lines_of}
use Rattle.{rfc_fields.specs.Members.field_left, decide_preconditions.specs.Tags.{is_equal_member, lists}}
use Rattle.decide_preconditions.proofs.tags.lists.Given as goal

abbrev pub invariant-loop-member : goal.invariant-loop-member
invariant-loop-member l = list_any (is_equal_member l.comparison (option_copied l.etag)) (field_left l.members)
    ≡ lists l.comparison (option_copied l.etag) (lines_of l.field)

abbrev pub decreases-loop-member : goal.decreases-loop-member
decreases-loop-member l = length (field_left l.members)
