use Rattle.{std.specs.Prelude.◌↔◌, rfc_fields.specs.Members.field_left, cache_policy.specs.Varying.AreSame}
use Rattle.cache_policy.proofs.vary.are_same.Given as goal

-- the lists are the same exactly if what is left of them is
abbrev pub invariant-loop-member : goal.invariant-loop-member
invariant-loop-member l = AreSame (field_left l.fn.members) (field_left l.fn.others) ↔ AreSame
    (field_left l.member-iterator) (field_left l.others)
