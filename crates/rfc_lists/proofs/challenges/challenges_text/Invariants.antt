use Rattle.{std.proofs.Common.{◌≡◌, ◌++◌}, rfc_fields.specs.Members.field_left}
use Rattle.rfc_lists.specs.{Challenges.challenges_from, declared.challenges.Place.TheVariants.Before}
use Rattle.rfc_lists.proofs.challenges.challenges_text.Given as goal

abbrev pub invariant-loop-member : goal.invariant-loop-member
invariant-loop-member l = challenges_from Before (field_left l.initial.member-iterator)
    ≡ l.text.items ++ challenges_from l.place (field_left l.member-iterator)
