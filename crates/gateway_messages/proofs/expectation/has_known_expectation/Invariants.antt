use Rattle.{std.{proofs.Common.{◌≡◌, codes, length}, specs.List.list_all}, headers.specs.LineMap.lines_at}
use Rattle.rfc_fields.specs.{Directives.is_same_token, Members.field_left}
use Rattle.gateway_messages.specs.Expectations.{continue_name, has_known_expectation}
use Rattle.gateway_messages.proofs.expectation.has_known_expectation.Given as goal

abbrev pub invariant-loop-member : goal.invariant-loop-member
invariant-loop-member l = list_all (is_same_token continue_name) (field_left l.members)
    ≡ has_known_expectation (lines_at l.fields (codes "expect"))

abbrev pub decreases-loop-member : goal.decreases-loop-member
decreases-loop-member l = length (field_left l.members)
