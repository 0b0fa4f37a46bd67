use Rattle.{std.specs.Prelude.{◌↔◌, All}, headers.specs.LineMap.lines_at, rfc_fields.specs.Members.field_left}
use Rattle.cache_policy.specs.Varying.{Agree, AreAlike}
use Rattle.cache_policy.proofs.vary.are_alike.Given as goal

-- the requests agree in all members exactly if they agree in those that are left
abbrev pub invariant-loop-member : goal.invariant-loop-member
invariant-loop-member l = AreAlike (lines_at l.fn.stored) (lines_at l.fn.request) (lines_at l.fn.response) ↔ All
    (Agree (lines_at l.fn.stored) (lines_at l.fn.request)) (field_left l.member-iterator)
