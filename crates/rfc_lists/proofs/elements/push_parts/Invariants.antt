use Rattle.{std.{proofs.Common.{◌≡◌, ◌++◌}, specs.Prelude.flat_map}, rfc_fields.specs.Members.members_left}
use Rattle.rfc_lists.specs.Elements.{part_line}
use Rattle.rfc_lists.proofs.elements.push_parts.Given as goal

abbrev pub invariant-loop-parameter : goal.invariant-loop-parameter
invariant-loop-parameter l =
    l.initial.text.items ++ flat_map (part_line l.form) (members_left l.initial.parameter-iterator)
    ≡ l.text.items ++ flat_map (part_line l.form) (members_left l.parameter-iterator)
