use Rattle.{std.proofs.Common.{◌≡◌, length, []}, rfc_fields.specs.Members.{FieldState, members_left, field_left}}
use Rattle.rfc_fields.proofs.members.FieldMembers.next.Given as goal

abbrev pub invariant-loop-value : goal.invariant-loop-value
invariant-loop-value l =
    let before : FieldState = record { line = l.initial.self-inside.line; values = l.initial.self-inside.values } in
    let now : FieldState = record { line = l.self-inside.line; values = l.self-inside.values } in
    record {
      left : field_left before ≡ field_left now;
      none : members_left now.line ≡ [];
    }

abbrev pub decreases-loop-value : goal.decreases-loop-value
decreases-loop-value l = length l.self-inside.values
