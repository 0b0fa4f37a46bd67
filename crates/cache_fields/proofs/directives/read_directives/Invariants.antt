use Rattle.{std.proofs.Common.◌≡◌, headers_map.specs.LineMap.lines_at, rfc_fields.specs.Members.field_left}
use Rattle.cache_fields.{specs.Directives.directed, proofs.DirectiveLemmas.directed_after}
use Rattle.cache_fields.proofs.directives.read_directives.Given as goal

-- what was directed so far and the members that are left direct what all members do
abbrev pub invariant-loop-member : goal.invariant-loop-member
invariant-loop-member l = directed (lines_at l.fn.message) ≡ directed_after l.directives (field_left l.member-iterator)
