use Rattle.{std.{proofs.Common.{◌≡◌, ◌++◌}, specs.Prelude.flat_map}, rfc_fields.specs.Members.field_left}
use Rattle.c_typed.specs.Directives.{argument_line}
use Rattle.c_typed.proofs.directives.text_of.Given as goal

abbrev pub invariant-loop-member : goal.invariant-loop-member
invariant-loop-member l = flat_map (argument_line l.name) (field_left l.initial.member-iterator)
    ≡ l.text.items ++ flat_map (argument_line l.name) (field_left l.member-iterator)
